-- Looking for the first place that fails, and adding up the pays. Assumes nothing.
use Rattle.std.proofs.Common.{◌≡◌, ℕ, ◌+◌, ◌*◌, ◌<◌, ◌≤◌, List, length, get_or, take, ℤ, ◌+ℤ◌, Some, None, Option, Ok, Err, Result, refl, sym, ap, ◌∙◌, subst, mul-add, add-one, zero-add, arith}
use Rattle.std.proofs.lemmas.List.{get_or-take, get_or_default, length-take-le}
use Rattle.std.proofs.lemmas.List.FromFn.{length-range_with_len, get_or-range_with_len}
use Rattle.std.specs.List.{AllWithin, HoldsAt, range_with_len}
use Rattle.std.specs.Option.{MatchOption, ok_or}
use Rattle.terms.specs.Numbers.{Near}
use Rattle.terms.specs.Sums.{sum_to}
use Rattle.terms.proofs.Bounds.{near_test, near_zero, near_sub, near_add, near_more}
use Rattle.terms.proofs.Sums.{sum_to_same}
use Rattle.settlement.specs.declared.standing.Standing.{Standing}
use Rattle.settlement.specs.Reasons.{FirstNot}
use Rattle.settlement.specs.Weighing.{FoundFirst, pay_at}

-- what holds everywhere fails nowhere
pub none_fails : {n : ℕ} {P : ℕ → Type 0} → ((i : ℕ) → i < n → P i) → (k : ℕ) → FirstNot n P k → ⊥
none_fails all k f = f.fails (all k f.below)

-- what a value or an error came from
pub some_of : {X E : Type 0} (o : Option X) (d : E) (r : Result X E) (x : X) → r ≡ ok_or o d → r ≡ Ok x → o ≡ Some x
some_of None d r x e h = absurd (cc)
some_of (Some y) d r x e h = cc

pub none_of : {X E : Type 0} (o : Option X) (d : E) (r : Result X E) (f : E) → r ≡ ok_or o d → r ≡ Err f → (o ≡ None) × (f ≡ d)
none_of None d r f e h = (refl, cc)
none_of (Some y) d r f e h = absurd (cc)

pub pay_near : (o : Option Standing) → Near 96000000000000 (pay_at o)
pay_near None = near_zero 96000000000000
pay_near (Some s) = near_sub 48000000000000 48000000000000 s.best s.gain (near_test 48000000000000 s.best s.best_near) (near_test 48000000000000 s.gain s.gain_near)

-- what is found first among the first n of a list
pub found_in_front : {X : Type 0} (P : ℕ → X → Type 0) (d : X) (n : ℕ) (xs : List X) (r : Option ℕ) → n ≤ length xs → FoundFirst (length (take n xs)) (λ i. P i (get_or (take n xs) i d)) r → FoundFirst n (λ i. P i (get_or xs i d)) r
found_in_front P d n xs None le h = let long = length-take-le n xs le in λ i lt. subst (P i) (get_or-take n xs i d lt) (h i (omega arith))
found_in_front P d n xs (Some k) le f =
    let long = length-take-le n xs le in
    let within : k < n = let b = f.below in omega arith in
    record {
      below = within;
      fails = λ p. f.fails (subst (P k) (sym (get_or-take n xs k d within)) p);
      before = λ i lt. subst (P i) (get_or-take n xs i d (omega arith)) (f.before i lt);
    }

counted : (n i d : ℕ) → i < n → get_or (range_with_len 0 n) i d ≡ i
counted n i d lt = get_or-range_with_len 0 n i d lt ∙ zero-add i

-- what is found first among the numbers below n
pub found_below : (P : ℕ → Type 0) (n : ℕ) (r : Option ℕ) → MatchOption r (AllWithin P (range_with_len 0 n) 0 (length (range_with_len 0 n))) (λ k. (P k → ⊥) × (i : ℕ) × (i < length (range_with_len 0 n)) × HoldsAt (λ j. j ≡ k) (range_with_len 0 n) i × AllWithin P (range_with_len 0 n) 0 i) → FoundFirst n P r
found_below P n None h = let long = length-range_with_len 0 n in λ i lt. subst P (counted n i 0 lt) (h i 0 (omega arith) (omega arith))
found_below P n (Some k) h =
    let long = length-range_with_len 0 n in
    let within : h.1 < n = let b = h.2 in omega arith in
    let is : h.1 ≡ k = sym (counted n h.1 0 within) ∙ h.3 0 in
    record {
      below = subst (λ j. j < n) is within;
      fails = h.0;
      before = λ i lt. subst P (counted n i 0 (omega arith)) (h.4 i 0 (omega arith) (omega arith));
    }

-- what the turn of a loop over the first n of a list has
pub item_in_front : {X : Type 0} (n : ℕ) (xs : List X) (i : ℕ) (x d : X) → n ≤ length xs → i < length (take n xs) → x ≡ get_or (take n xs) i x → (i < n) × (x ≡ get_or xs i d)
item_in_front n xs i x d le lt is =
    let long = length-take-le n xs le in
    let within : i < n = omega arith in
    (within, is ∙ get_or_default (take n xs) i x d lt ∙ get_or-take n xs i d within)

pub pays_in_front : (n : ℕ) (xs : List (Option Standing)) → n ≤ length xs → sum_to (length (take n xs)) (λ u. pay_at (get_or (take n xs) u None)) ≡ sum_to n (λ u. pay_at (get_or xs u None))
pays_in_front n xs le = rw (length-take-le n xs le) (sum_to_same n (λ u. pay_at (get_or (take n xs) u None)) (λ u. pay_at (get_or xs u None)) (λ u lt. ap pay_at (get_or-take n xs u None lt)))

-- n numbers within k are added up, and then one more
pub sum_more : (k n : ℕ) (f : ℕ → ℤ) {x : ℤ} (p y : ℤ) → x ≡ sum_to n f → Near (k * n) x → Near k (f n) → p ≡ f n → y ≡ x +ℤ p → (y ≡ sum_to (n + 1) f) × Near (k * (n + 1)) y
sum_more k n f {x} p y e h l is s =
    let sum : y ≡ x +ℤ f n = s ∙ ap (λ z. x +ℤ z) is in
    let total : y ≡ sum_to (n + 1) f = rw (add-one n) (sum ∙ ap (λ z. z +ℤ f n) e) in
    let room : k * n + k ≤ k * (n + 1) = let d = mul-add k n 1 in omega arith in
    (total, subst (Near (k * (n + 1))) (sym sum) (near_more (k * n + k) (k * (n + 1)) (x +ℤ f n) room (near_add (k * n) k x (f n) h l)))
