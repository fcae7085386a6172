-- What an arc table means, in the words of its rows. Assumes nothing.
use Rattle.std.proofs.Common.{◌≡◌, ℕ, ◌<◌, min, Bool, true, false, cond, ◌||◌, ◌↔◌, is_some, eqb, ltb, List, [], ◌∷◌, ◌++◌, ℤ, pos, ◌+ℤ◌, ◌*ℤ◌, neg_ℤ, ◌≤ℤ◌, int_le, Some, None, Option, refl, sym, ap, subst, ⊎_elim, ◌∙◌, arith}
use Rattle.std.specs.List.{Any, All, list_any}
use Rattle.std.specs.Option.{IsSome}
use Rattle.std.specs.Cmp.Derive.{both_true}
use Rattle.std.proofs.lemmas.Bool.{true≢false, cases_Bool, and_parts, cond-true, cond-false}
use Rattle.std.proofs.lemmas.Bool.Decides.{nat_tests}
use Rattle.std.proofs.lemmas.Option.{same_Some}
use Rattle.std.proofs.lemmas.List.Elements.{All-cons, All-head, All-tail}
use Rattle.std.proofs.lemmas.List.Folds.{Any-from_list_any, list_any-from_Any}
use Rattle.terms.specs.Numbers.{near}
use Rattle.terms.proofs.Ints.{le_test, test_le}
use Rattle.terms.proofs.Bounds.{near_test, near_true}
use Rattle.fleet.specs.Units.{among}
use Rattle.fleet_kinds.specs.declared.rows.ArcRow.{ArcRow}
use Rattle.fleet_kinds.specs.ArcTables.{existing, ranged, heeded, is_for, row_for, row_range, range_of, cost_on, Heeded, About, Counts, ArcTableLaw}
use Rattle.fleet_kinds.specs.Heeded.{table_sound}

-- the tests of a row --

below_test : (x n : ℕ) → x < n → ltb x n ≡ true
below_test x n h = grind (arith, nat_tests)

test_below : (x n : ℕ) → ltb x n ≡ true → x < n
test_below x n h = grind (arith, nat_tests)

equal_test : (x y : ℕ) → x ≡ y → eqb x y ≡ true
equal_test x y h = grind (arith, nat_tests)

test_equal : (x y : ℕ) → eqb x y ≡ true → x ≡ y
test_equal x y h = grind (arith, nat_tests)

test_heeded : (n : ℕ) (r : ArcRow) → heeded n r ≡ true → Heeded n r
test_heeded n r h =
    let k = and_parts (existing n r) _ h in
    let e = and_parts (ltb r.unit n) _ k.0 in
    let e1 = and_parts (ltb r.period 48) _ e.1 in
    let e2 = and_parts (ltb r.from 80) _ e1.1 in
    let s = and_parts (ranged r) _ k.1 in
    let s1 = and_parts (int_le (neg_ℤ (pos 500)) r.lo) _ s.0 in
    let s2 = and_parts (int_le r.lo r.hi) _ s1.1 in
    let m = and_parts (near 250000000 r.base) _ s.1 in
    record {
      unit = test_below r.unit n e.0;
      period = test_below r.period 48 e1.0;
      from = test_below r.from 80 e2.0;
      to = test_below r.to 80 e2.1;
      low = test_le _ r.lo s1.0;
      order = test_le r.lo r.hi s2.0;
      high = test_le r.hi _ s2.1;
      base = near_test 250000000 r.base m.0;
      rate = near_test 500000 r.rate m.1;
    }

heeded_test : (n : ℕ) (r : ArcRow) → Heeded n r → heeded n r ≡ true
heeded_test n r h =
    both_true
    (both_true (below_test r.unit n h.unit) (both_true (below_test r.period 48 h.period) (both_true (below_test r.from 80 h.from) (below_test r.to 80 h.to))))
    (both_true
    (both_true (le_test _ r.lo h.low) (both_true (le_test r.lo r.hi h.order) (le_test r.hi _ h.high)))
    (both_true (near_true 250000000 r.base h.base) (near_true 500000 r.rate h.rate)))

module _ (n u t a b : ℕ) where
  test_row : (r : ArcRow) → is_for n u t a b r ≡ true → Heeded n r × About u t a b r
  test_row r h =
      let k = and_parts (heeded n r) _ h in
      let e = and_parts (eqb r.unit u) _ k.1 in
      let e1 = and_parts (eqb r.period t) _ e.1 in
      let e2 = and_parts (eqb r.from a) _ e1.1 in
      (test_heeded n r k.0, record { unit = test_equal r.unit u e.0; period = test_equal r.period t e1.0; from = test_equal r.from a e2.0; to = test_equal r.to b e2.1 })

  row_test : (r : ArcRow) → Heeded n r → About u t a b r → is_for n u t a b r ≡ true
  row_test r h k =
      both_true (heeded_test n r h)
      (both_true (equal_test r.unit u k.unit) (both_true (equal_test r.period t k.period) (both_true (equal_test r.from a k.from) (equal_test r.to b k.to))))

  fails : (r : ArcRow) → (Heeded n r → About u t a b r → ⊥) → is_for n u t a b r ≡ false
  fails r not = ⊎_elim (λ h. let k = test_row r h in absurd (not k.0 k.1)) (λ h. h) (cases_Bool (is_for n u t a b r))

  -- the row that counts is the first that passes the test --

  counts_here : (r : ArcRow) (rows : List ArcRow) → is_for n u t a b r ≡ true → Counts n (r ∷ rows) u t a b r
  counts_here r rows h = let k = test_row r h in record {
    before = [];
    after = rows;
    stands = refl;
    heeded = k.0;
    about = k.1;
    first = λ i d l. absurd (omega arith);
  }

  counts_later : (x : ArcRow) (rows : List ArcRow) (r : ArcRow) → is_for n u t a b x ≡ false → Counts n rows u t a b r → Counts n (x ∷ rows) u t a b r
  counts_later x rows r failed c = record {
    before = x ∷ c.before;
    after = c.after;
    stands = ap (λ l. x ∷ l) c.stands;
    heeded = c.heeded;
    about = c.about;
    first = All-cons (λ y. Heeded n y → About u t a b y → ⊥) x c.before (λ h k. true≢false (sym (row_test x h k) ∙ failed)) c.first;
  }

  counted : (rows : List ArcRow) (r : ArcRow) → row_for n rows u t a b ≡ Some r → Counts n rows u t a b r
  counted [] r e = let z : ◌≡◌ {A = ℕ} 0 1 = cc in absurd (omega arith)
  counted (x ∷ rows) r e =
      ⊎_elim
      (λ h. subst (Counts n (x ∷ rows) u t a b) (same_Some x r (sym (cond-true (is_for n u t a b x) (Some x) (row_for n rows u t a b) h) ∙ e)) (counts_here x rows h))
      (λ h. counts_later x rows r h (counted rows r (sym (cond-false (is_for n u t a b x) (Some x) (row_for n rows u t a b) h) ∙ e)))
      (cases_Bool (is_for n u t a b x))

  found : (before after : List ArcRow) (r : ArcRow) → is_for n u t a b r ≡ true → All (λ x. Heeded n x → About u t a b x → ⊥) before → row_for n (before ++ (r ∷ after)) u t a b ≡ Some r
  found [] after r h none = cond-true (is_for n u t a b r) (Some r) (row_for n after u t a b) h
  found (x ∷ before) after r h none =
      cond-false (is_for n u t a b x) (Some x) (row_for n (before ++ (r ∷ after)) u t a b) (fails x (All-head (λ y. Heeded n y → About u t a b y → ⊥) x before none))
      ∙ found before after r h (All-tail (λ y. Heeded n y → About u t a b y → ⊥) x before none)

  counts_row : (rows : List ArcRow) (r : ArcRow) → Counts n rows u t a b r → row_for n rows u t a b ≡ Some r
  counts_row rows r c =
      subst (λ l. row_for n l u t a b ≡ Some r) (sym c.stands) (found c.before c.after r (row_test r c.heeded c.about) c.first)

  -- there is one where some row passes, and else none

  finds : (rows : List ArcRow) → list_any (is_for n u t a b) rows ≡ is_some (row_for n rows u t a b)
  finds [] = refl
  finds (x ∷ rows) = by (is_for n u t a b x) (finds rows)
    where
      by : (h : Bool) → list_any (is_for n u t a b) rows ≡ is_some (row_for n rows u t a b) → (h || list_any (is_for n u t a b) rows) ≡ is_some (cond h (Some x) (row_for n rows u t a b))
      by true e = refl
      by false e = e

  has_range : (o : Option ArcRow) → is_some (range_of o) ≡ is_some o
  has_range None = refl
  has_range (Some r) = refl

  the_row : (o : Option ArcRow) → is_some o ≡ true → (r : ArcRow) × (o ≡ Some r)
  the_row None h = absurd (true≢false (sym h))
  the_row (Some r) h = (r, refl)

  arc_stands : (rows : List ArcRow) → IsSome (range_of (row_for n rows u t a b)) ↔ Any (λ r. Heeded n r × About u t a b r) rows
  arc_stands rows = (
    λ h. let k = Any-from_list_any (is_for n u t a b) rows (finds rows ∙ sym (has_range (row_for n rows u t a b)) ∙ h) in (k.0, k.1, k.2, k.3, test_row k.1 k.4),
    λ h. has_range (row_for n rows u t a b) ∙ sym (finds rows) ∙ list_any-from_Any (is_for n u t a b) rows (h.0, h.1, h.2, h.3, row_test h.1 h.4.0 h.4.1),
  )

  arc_counts : (rows : List ArcRow) → IsSome (range_of (row_for n rows u t a b)) → (r : ArcRow) × Counts n rows u t a b r
  arc_counts rows h = let k = the_row (row_for n rows u t a b) (sym (has_range (row_for n rows u t a b)) ∙ h) in (k.0, counted rows k.0 k.1)

  arc_cost : (rows : List ArcRow) (r : ArcRow) (q : ℤ) → Counts n rows u t a b r → r.lo ≤ℤ q → q ≤ℤ r.hi → cost_on (row_for n rows u t a b) q ≡ r.base +ℤ (r.rate *ℤ q)
  arc_cost rows r q c low high =
      ap (λ o. cost_on o q) (counts_row rows r c)
      ∙ cond-true (among (row_range r) q) (r.base +ℤ (r.rate *ℤ q)) (pos 0) (both_true (le_test r.lo q low) (le_test q r.hi high))

states_of : (n u : ℕ) → u < n → ◌≡◌ {A = ℕ} (cond (ltb u n) 80 1) 80
states_of n u h = cond-true (ltb u n) 80 1 (below_test u n h)

pub arc_table_law : ArcTableLaw
arc_table_law n rows = record {
  few = λ h. omega arith;
  many = λ h. omega arith;
  states = λ u h. states_of (min n 64) u h;
  starts = λ u h. refl;
  ends = λ u a h k. both_true (below_test u (min n 64) h) (below_test a 80 k);
  stands = λ u t a b. arc_stands (min n 64) u t a b rows;
  outputs = λ u t a b r c. ap range_of (counts_row (min n 64) u t a b rows r c);
  counts = λ u t a b h. arc_counts (min n 64) u t a b rows h;
  cost = λ u t a b r q c low high. arc_cost (min n 64) u t a b rows r q c low high;
  other = λ u t a b q h. ((table_sound n rows).each u).no_cost t a b q h;
}
