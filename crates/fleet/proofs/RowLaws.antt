-- What is wrong with a row, exactly where. Assumes nothing.
use Rattle.std.proofs.Common.{◌≡◌, ◌≢◌, ℕ, ◌<◌, ◌≤◌, Bool, true, false, cond, ◌&&◌, ◌⊎◌, ◌↔◌, inl, inr, eqb, ltb, leb, List, length, get_or, ℤ, pos, Some, None, Option, refl, sym, ap, subst, ◌∙◌, ⊎_elim, arith}
use Rattle.std.specs.List.{prefix_len}
use Rattle.std.proofs.lemmas.Bool.{true≢false, cases_lt}
use Rattle.std.proofs.lemmas.Bool.Decides.{nat_tests}
use Rattle.std.proofs.lemmas.List.Sums.{prefix_len_passes, prefix_len_stops}
use Rattle.terms.specs.Numbers.{Near, near}
use Rattle.terms.proofs.Bounds.{near_test, near_true}
use Rattle.fleet.specs.Rows.{Fault, Bounded, SoundPrices, FirstBeyond, fault_at, row_fault, need_fault, price_fault, PriceRowLaw, NeedRowLaw}

-- neither 22 at 0 nor 23 before place T, which are faults of the numbers
record Apart (T : ℕ) (f : Option Fault) : Type 0 where
  not_22 : f ≡ fault_at 22 0 → ⊥
  not_23 : (k : ℕ) → k < T → f ≡ fault_at 23 k → ⊥

abbrev number_or : Option Fault → ℕ
number_or None = 0
number_or (Some f) = f.number

abbrev place_or : Option Fault → ℕ
place_or None = 0
place_or (Some f) = f.place

other_number : (f g : Option Fault) → number_or f ≢ number_or g → f ≡ g → ⊥
other_number f g n e = n (ap number_or e)

none_apart : (T : ℕ) → Apart T None
none_apart T = record {
  not_22 = other_number None (fault_at 22 0) (λ z. omega arith);
  not_23 = λ k lt. other_number None (fault_at 23 k) (λ z. omega arith);
}

end_apart : (T : ℕ) → Apart T (fault_at 23 T)
end_apart T = record {
  not_22 = other_number (fault_at 23 T) (fault_at 22 0) (λ z. omega arith);
  not_23 = λ k lt e. let same : T ≡ k = ap place_or e in omega arith;
}

-- a row's fault f, case by case: where nothing is wrong with the numbers, it is the other
data Case (T m : ℕ) (xs : List ℤ) (other f : Option Fault) : Type 0 where
  count : length xs ≢ T → f ≡ fault_at 22 0 → Case T m xs other f
  number : (k : ℕ) → FirstBeyond T m xs k → f ≡ fault_at 23 k → Case T m xs other f
  fine : Bounded T m xs → f ≡ other → Case T m xs other f

module _ (T m : ℕ) (xs : List ℤ) where
  row_case : (other : Option Fault) → Case T m xs other (row_fault T m xs other)
  row_case other = by (eqb (length xs) T) refl (ltb (prefix_len (near m) xs) (length xs)) refl
    where
      passes : (i : ℕ) → i < prefix_len (near m) xs → Near m (get_or xs i (pos 0))
      passes i lt = near_test m (get_or xs i (pos 0)) (prefix_len_passes (near m) xs i (pos 0) lt)

      stops : prefix_len (near m) xs < length xs → Near m (get_or xs (prefix_len (near m) xs) (pos 0)) → ⊥
      stops lt h = true≢false (sym (near_true m _ h) ∙ prefix_len_stops (near m) xs (pos 0) lt)

      by : (b : Bool) → eqb (length xs) T ≡ b → (k : Bool) → ltb (prefix_len (near m) xs) (length xs) ≡ k → Case T m xs other (cond b (cond k (fault_at 23 (prefix_len (near m) xs)) other) (fault_at 22 0))
      by true e true f =
          let long : length xs ≡ T = grind (arith, nat_tests) in
          let lt : prefix_len (near m) xs < length xs = grind (arith, nat_tests) in
          number (prefix_len (near m) xs) (record { long = long; below = omega arith; beyond = stops lt; before = passes }) refl
      by true e false f =
          let long : length xs ≡ T = grind (arith, nat_tests) in
          let all : length xs ≤ prefix_len (near m) xs = grind (arith, nat_tests) in
          fine (record { long = long; each = λ t lt. passes t (omega arith) }) refl
      by false e k f = count (λ long. grind (arith, nat_tests)) refl

  one_first : (p q : ℕ) → FirstBeyond T m xs p → FirstBeyond T m xs q → p ≡ q
  one_first p q h k =
      ⊎_elim
      (λ lt. absurd (h.beyond (k.before p lt)))
      (λ ge. ⊎_elim (λ lt. absurd (k.beyond (h.before q lt))) (λ le. let same : p ≡ q = omega arith in same) (cases_lt q p))
      (cases_lt p q)

-- and so each fault has its case
module _ (T m : ℕ) (xs : List ℤ) (other f : Option Fault) where
  count_exactly : Case T m xs other f → Apart T other → (f ≡ fault_at 22 0) ↔ (length xs ≢ T)
  count_exactly (count n e) o = (λ _. n, λ _. e)
  count_exactly (number p b e) o = (λ h. absurd (other_number (fault_at 23 p) (fault_at 22 0) (λ z. omega arith) (sym e ∙ h)), λ n. absurd (n b.long))
  count_exactly (fine s e) o = (λ h. absurd (o.not_22 (sym e ∙ h)), λ n. absurd (n s.long))

  number_exactly : (k : ℕ) → Case T m xs other f → (other ≡ fault_at 23 k → ⊥) → (f ≡ fault_at 23 k) ↔ FirstBeyond T m xs k
  number_exactly k (count n e) o = (λ h. absurd (other_number (fault_at 22 0) (fault_at 23 k) (λ z. omega arith) (sym e ∙ h)), λ b. absurd (n b.long))
  number_exactly k (number p b e) o = (λ h. subst (FirstBeyond T m xs) (ap place_or (sym e ∙ h)) b, λ c. e ∙ ap (fault_at 23) (one_first T m xs p k b c))
  number_exactly k (fine s e) o = (λ h. absurd (o (sym e ∙ h)), λ b. absurd (b.beyond (s.each k b.below)))

  other_exactly : (g : Option Fault) → Case T m xs other f → Apart T g → (f ≡ g) ↔ (Bounded T m xs × (other ≡ g))
  other_exactly g (count n e) a = (λ h. absurd (a.not_22 (sym h ∙ e)), λ w. absurd (n w.0.long))
  other_exactly g (number p b e) a = (λ h. absurd (a.not_23 p b.below (sym h ∙ e)), λ w. absurd (b.beyond (w.0.each p b.below)))
  other_exactly g (fine s e) a = (λ h. (s, sym e ∙ h), λ w. e ∙ w.1)

pub need_row_law : NeedRowLaw
need_row_law = record {
  none = λ T xs. let w = other_exactly T 32000 xs None (need_fault T xs) None (row_case T 32000 xs None) (none_apart T) in (λ h. (w.0 h).0, λ b. w.1 (b, refl));
  count = λ T xs. count_exactly T 32000 xs None (need_fault T xs) (row_case T 32000 xs None) (none_apart T);
  number = λ T xs k. number_exactly T 32000 xs None (need_fault T xs) k (row_case T 32000 xs None) (other_number None (fault_at 23 k) (λ z. omega arith));
}

-- the denominator
abbrev over_fault : ℕ → ℕ → Option Fault
over_fault T d = cond (leb 1 d && leb d 1000) None (fault_at 23 T)

module _ (T d : ℕ) where
  data OverCase (f : Option Fault) : Type 0 where
    within : 1 ≤ d → d ≤ 1000 → f ≡ None → OverCase f
    beyond : (d < 1) ⊎ (1000 < d) → f ≡ fault_at 23 T → OverCase f

  over_case : OverCase (over_fault T d)
  over_case = by (leb 1 d) refl (leb d 1000) refl
    where
      by : (l : Bool) → leb 1 d ≡ l → (h : Bool) → leb d 1000 ≡ h → OverCase (cond (l && h) None (fault_at 23 T))
      by true p true q = within (grind (arith, nat_tests)) (grind (arith, nat_tests)) refl
      by true p false q = beyond (inr (grind (arith, nat_tests))) refl
      by false p h q = beyond (inl (grind (arith, nat_tests))) refl

  over_apart : (f : Option Fault) → OverCase f → Apart T f
  over_apart f (within l h e) = subst (Apart T) (sym e) (none_apart T)
  over_apart f (beyond w e) = subst (Apart T) (sym e) (end_apart T)

  not_within : 1 ≤ d → d ≤ 1000 → (d < 1) ⊎ (1000 < d) → ⊥
  not_within l h (inl a) = omega arith
  not_within l h (inr a) = omega arith

  within_exactly : (f : Option Fault) → OverCase f → (f ≡ None) ↔ ((1 ≤ d) × (d ≤ 1000))
  within_exactly f (within l h e) = (λ _. (l, h), λ _. e)
  within_exactly f (beyond w e) = (λ h. absurd (other_number (fault_at 23 T) None (λ z. omega arith) (sym e ∙ h)), λ r. absurd (not_within r.0 r.1 w))

  beyond_exactly : (f : Option Fault) → OverCase f → (f ≡ fault_at 23 T) ↔ ((d < 1) ⊎ (1000 < d))
  beyond_exactly f (within l h e) = (λ k. absurd (other_number None (fault_at 23 T) (λ z. omega arith) (sym e ∙ k)), λ w. absurd (not_within l h w))
  beyond_exactly f (beyond w e) = (λ _. w, λ _. e)

module _ (T d : ℕ) (ns : List ℤ) where
  price_case : Case T 1000000000 ns (over_fault T d) (price_fault T d ns)
  price_case = row_case T 1000000000 ns (over_fault T d)

  price_apart : Apart T (over_fault T d)
  price_apart = over_apart T d (over_fault T d) (over_case T d)

  price_none : (price_fault T d ns ≡ None) ↔ SoundPrices T d ns
  price_none =
      let w = other_exactly T 1000000000 ns (over_fault T d) (price_fault T d ns) None price_case (none_apart T) in
      let v = within_exactly T d (over_fault T d) (over_case T d) in
      (λ h. let k = w.0 h in let r = v.0 k.1 in record { bounded = k.0; low = r.0; high = r.1 }, λ s. w.1 (s.bounded, v.1 (s.low, s.high)))

  price_over : (price_fault T d ns ≡ fault_at 23 T) ↔ (Bounded T 1000000000 ns × ((d < 1) ⊎ (1000 < d)))
  price_over =
      let w = other_exactly T 1000000000 ns (over_fault T d) (price_fault T d ns) (fault_at 23 T) price_case (end_apart T) in
      let v = beyond_exactly T d (over_fault T d) (over_case T d) in
      (λ h. let k = w.0 h in (k.0, v.0 k.1), λ s. w.1 (s.0, v.1 s.1))

pub price_row_law : PriceRowLaw
price_row_law = record {
  none = price_none;
  count = λ T d ns. count_exactly T 1000000000 ns (over_fault T d) (price_fault T d ns) (price_case T d ns) (price_apart T d ns);
  number = λ T d ns k lt. number_exactly T 1000000000 ns (over_fault T d) (price_fault T d ns) k (price_case T d ns) ((price_apart T d ns).not_23 k lt);
  over = price_over;
}
