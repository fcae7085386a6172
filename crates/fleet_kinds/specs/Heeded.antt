-- What heeded rows keep, and that an arc table is sound. Assumes nothing.
use Rattle.std.specs.Prelude.{◌≡◌, ℕ, ◌<◌, ◌≤◌, min, Bool, true, false, cond, ◌&&◌, List, [], ◌∷◌, ℤ, pos, ◌+ℤ◌, ◌*ℤ◌, neg_ℤ, ◌≤ℤ◌, Some, None, Option, IfSome, ◌==◌, int_le, nat_lt, refl}
use Rattle.std.specs.List.{find}
use Rattle.std.proofs.Common.{sym, subst, ◌∙◌, ⊎_elim, arith}
use Rattle.std.proofs.lemmas.Int.{ints}
use Rattle.std.proofs.lemmas.Bool.{cases_Bool, cond-true, cond-false, and_parts, and_left, le-ltb}
use Rattle.std.proofs.lemmas.Bool.Decides.{nat_tests}
use Rattle.std.proofs.lemmas.Option.{same_Some}
use Rattle.terms.specs.Numbers.{Near, near}
use Rattle.terms.proofs.Ints.{test_le}
use Rattle.terms.proofs.Bounds.{near_test, near_mul, near_add, near_zero, near_between}
use Rattle.fleet.specs.Units.{SoundUnit, Sound, SoundArc, among, holds}
use Rattle.fleet.proofs.Arcs.{among_low, among_high}
use Rattle.fleet_kinds.specs.declared.rows.ArcRow.{ArcRow}
use Rattle.fleet_kinds.specs.ArcTables.{existing, ranged, bounded, heeded, is_for, row_for, row_range, range_of, cost_on, table_unit, table_meaning}

-- a heeded row for this unit, period and these states
pub record HeededFor (n u t a b : ℕ) (r : ArcRow) : Type 0 where
  pub lo : Near 500 r.lo
  pub hi : Near 500 r.hi
  pub order : r.lo ≤ℤ r.hi
  pub base : Near 250000000 r.base
  pub rate : Near 500000 r.rate
  pub unit : u < n
  pub period : t < 48
  pub from : a < 80
  pub to : b < 80

same_below : (x y n : ℕ) → (x == y) ≡ true → nat_lt x n ≡ true → y < n
same_below x y n e h = grind (arith, nat_tests)

pub heeded_for : (n u t a b : ℕ) (r : ArcRow) → is_for n u t a b r ≡ true → HeededFor n u t a b r
heeded_for n u t a b r h =
    let k = and_parts (heeded n r) _ h in
    let e = and_parts (existing n r) _ k.0 in
    let e1 = and_parts (nat_lt r.unit n) _ e.0 in
    let e2 = and_parts (nat_lt r.period 48) _ e1.1 in
    let e3 = and_parts (nat_lt r.from 80) _ e2.1 in
    let s = and_parts (ranged r) _ e.1 in
    let s1 = and_parts (int_le (neg_ℤ (pos 500)) r.lo) _ s.0 in
    let s2 = and_parts (int_le r.lo r.hi) _ s1.1 in
    let m = and_parts (near 250000000 r.base) _ s.1 in
    let a1 = and_parts (r.unit == u) _ k.1 in
    let a2 = and_parts (r.period == t) _ a1.1 in
    let a3 = and_parts (r.from == a) _ a2.1 in
    let low = test_le (neg_ℤ (pos 500)) r.lo s1.0 in
    let order = test_le r.lo r.hi s2.0 in
    let high = test_le r.hi (pos 500) s2.1 in
    record {
      lo = record { low = low; high = omega (arith, ints) };
      hi = record { low = omega (arith, ints); high = high };
      order = order;
      base = near_test 250000000 r.base m.0;
      rate = near_test 500000 r.rate m.1;
      unit = same_below r.unit u n a1.0 e1.0;
      period = same_below r.period t 48 a2.0 e2.0;
      from = same_below r.from a 80 a3.0 e3.0;
      to = same_below r.to b 80 a3.1 e3.1;
    }

-- the first that passes does pass
pub first_passes : {X : Type 0} (f : X → Bool) (xs : List X) (x : X) → find f xs ≡ Some x → f x ≡ true
first_passes f [] x e = let z : ◌≡◌ {A = ℕ} 0 1 = cc in absurd (omega arith)
first_passes f (y ∷ xs) x e =
    ⊎_elim
    (λ h. subst (λ z. f z ≡ true) (same_Some y x (sym (cond-true (f y) (Some y) (find f xs) h) ∙ e)) h)
    (λ h. first_passes f xs x (sym (cond-false (f y) (Some y) (find f xs) h) ∙ e))
    (cases_Bool (f y))

pub row_heeded : (n : ℕ) (rows : List ArcRow) (u t a b : ℕ) (r : ArcRow) → row_for n rows u t a b ≡ Some r → HeededFor n u t a b r
row_heeded n rows u t a b r e = heeded_for n u t a b r (first_passes (is_for n u t a b) rows r e)

-- what counts is within the bounds
pub row_within : (n : ℕ) (rows : List ArcRow) (u t a b : ℕ) (o : Option ArcRow) → o ≡ row_for n rows u t a b → IfSome o (λ r. (ranged r && bounded r) ≡ true)
row_within n rows u t a b None e = tt
row_within n rows u t a b (Some r) e =
    let k = and_parts (heeded n r) _ (first_passes (is_for n u t a b) rows r (sym e)) in
    (and_parts (existing n r) _ k.0).1

module _ (n u t a b : ℕ) where
  arc_sound : (o : Option ArcRow) → ((r : ArcRow) → o ≡ Some r → HeededFor n u t a b r) → SoundArc (range_of o)
  arc_sound None h = tt
  arc_sound (Some r) h = let k = h r refl in (k.lo, k.hi, k.order)

  -- no row is heeded for what does not exist
  no_row : (o : Option ArcRow) → ((r : ArcRow) → o ≡ Some r → HeededFor n u t a b r) → ((r : ArcRow) → HeededFor n u t a b r → ⊥) → range_of o ≡ None
  no_row None h none = refl
  no_row (Some r) h none = absurd (none r (h r refl))

  cost_near : (o : Option ArcRow) (q : ℤ) → ((r : ArcRow) → o ≡ Some r → HeededFor n u t a b r) → Near 500000000 (cost_on o q)
  cost_near None q h = near_zero 500000000
  cost_near (Some r) q h =
      let k = h r refl in
      let range = row_range r in
      ⊎_elim
      (λ y. subst (Near 500000000) (sym (cond-true (among range q) (r.base +ℤ (r.rate *ℤ q)) (pos 0) y))
      (near_add 250000000 250000000 r.base (r.rate *ℤ q) k.base (near_mul 500000 500 r.rate q k.rate (near_between 500 r.lo r.hi q k.lo k.hi (among_low range q y) (among_high range q y)))))
      (λ x. subst (Near 500000000) (sym (cond-false (among range q) (r.base +ℤ (r.rate *ℤ q)) (pos 0) x)) (near_zero 500000000))
      (cases_Bool (among range q))

  cost_none : (o : Option ArcRow) (q : ℤ) → holds (range_of o) q ≡ false → cost_on o q ≡ pos 0
  cost_none None q h = refl
  cost_none (Some r) q h = cond-false (among (row_range r) q) (r.base +ℤ (r.rate *ℤ q)) (pos 0) h

states_some : (b : Bool) → 1 ≤ cond b 80 1
states_some true = omega arith
states_some false = omega arith

states_few : (b : Bool) → cond b 80 1 ≤ 80
states_few true = omega arith
states_few false = omega arith

past : (n u a : ℕ) → cond (nat_lt u n) 80 1 ≤ a → (nat_lt u n && nat_lt a 80) ≡ false
past n u a h = grind (arith, nat_tests)

states_of : (n u : ℕ) → u < n → ◌≡◌ {A = ℕ} (cond (nat_lt u n) 80 1) 80
states_of n u h = grind (arith, nat_tests)

table_unit_sound : (n : ℕ) (rows : List ArcRow) (u : ℕ) → SoundUnit (table_unit n rows u)
table_unit_sound n rows u = record {
  some_state = states_some (nat_lt u n);
  few_states = states_few (nat_lt u n);
  starts = omega (arith, states_some (nat_lt u n));
  arcs = λ t a b. arc_sound n u t a b (row_for n rows u t a b) (row_heeded n rows u t a b);
  no_period = λ t a b le. no_row n u t a b (row_for n rows u t a b) (row_heeded n rows u t a b) (λ r k. let lt = k.period in omega arith);
  no_from = λ t a b le. no_row n u t a b (row_for n rows u t a b) (row_heeded n rows u t a b) (λ r k. let lt = k.from in let is = states_of n u k.unit in omega arith);
  no_to = λ t a b le. no_row n u t a b (row_for n rows u t a b) (row_heeded n rows u t a b) (λ r k. let lt = k.to in let is = states_of n u k.unit in omega arith);
  costs = λ t a b q. cost_near n u t a b (row_for n rows u t a b) q (row_heeded n rows u t a b);
  no_cost = λ t a b q h. cost_none n u t a b (row_for n rows u t a b) q h;
  no_end = past n u;
}

pub table_sound : (n : ℕ) (rows : List ArcRow) → Sound (table_meaning n rows)
table_sound n rows = record {
  few = omega arith;
  each = table_unit_sound (min n 64) rows;
  lacking = λ u h. record {
    states = cond-false (nat_lt u (min n 64)) 80 1 (le-ltb u (min n 64) h);
    start = refl;
    arc = λ t a b. no_row (min n 64) u t a b (row_for (min n 64) rows u t a b) (row_heeded (min n 64) rows u t a b) (λ r k. let lt = k.unit in omega arith);
    ends = λ a. and_left (nat_lt u (min n 64)) (nat_lt a 80) (le-ltb u (min n 64) h);
  };
}
