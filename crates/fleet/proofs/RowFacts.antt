-- What a checked row keeps, and what an entry gains at it. Assumes nothing.
use Rattle.std.proofs.Common.{◌≡◌, ℕ, ◌+◌, ◌<◌, ◌≤◌, Bool, true, false, not, cond, eqb, ltb, List, [], ◌∷◌, length, get_or, ◌++◌, ◌-◌, take, replicate, ℤ, pos, ◌+ℤ◌, ◌-ℤ◌, ◌*ℤ◌, Some, None, Option, sym, refl, ap, ◌∙◌, subst, ⊎_elim, arith, length-take}
use lib.IntN.{*ℤ-zero}
use Rattle.std.proofs.lemmas.List.Sums.{prefix_len_passes}
use Rattle.std.proofs.lemmas.List.{get_or-take, get_or_past, take_at}
use Rattle.std.proofs.lemmas.Int.{ints}
use Rattle.std.proofs.lemmas.Bool.{cases_lt}
use Rattle.std.proofs.lemmas.Bool.Decides.{nat_tests}
use Rattle.std.specs.List.{prefix_len, position, position_or_len}
use Rattle.terms.specs.Numbers.{Near, near}
use Rattle.terms.proofs.Ints.{mul_addℤ}
use Rattle.terms.proofs.Bounds.{near_test, near_zero, near_mul, near_sub, near_pos}
use Rattle.terms.specs.declared.entry.Entry.{Entry}
use Rattle.fleet.specs.declared.rows.Row.{Row}
use Rattle.fleet.specs.declared.rows.PriceRow.{PriceRow}
use Rattle.fleet.specs.Units.{UnitModel}
use Rattle.fleet.specs.Schedules.{Prices, numerator_at, gain_from, cost_from, revenue_from}
use Rattle.fleet.specs.Rows.{Fault, numbers_of, prices_of, row_fault}
use Rattle.fleet.specs.Gains.{entry_gain}

-- the bounds of a checked price row
pub record Priced (r : Prices) : Type 0 where
  pub few : r.over ≤ 1000
  pub each : (t : ℕ) → Near 1000000000 (numerator_at r t)

pub row_near : {m : ℕ} (row : Row m) (t : ℕ) → Near m (get_or (numbers_of row) t (pos 0))
row_near {m} row t =
    ⊎_elim
    (λ lt. subst (Near m) (sym (get_or-take row.periods row.numbers t (pos 0) lt)) (near_test m _ (row.bounded t lt)))
    (λ (le : row.periods ≤ t). subst (Near m) (sym (get_or_past (take row.periods row.numbers) t (pos 0) (simp length-take (omega arith)))) (near_zero m))
    (cases_lt t row.periods)

pub row_priced : (row : PriceRow) → Priced (prices_of row)
row_priced row = record { few = row.high; each = row_near row.numerators }

pub near_gain : (n q : ℤ) (d : ℕ) (c : ℤ) → Near 1000000000 n → Near 500 q → d ≤ 1000 → Near 500000000 c → Near 1000000000000 ((n *ℤ q) -ℤ (pos d *ℤ c))
near_gain n q d c hn hq hd hc = near_sub 500000000000 500000000000 (n *ℤ q) (pos d *ℤ c) (near_mul 1000000000 500 n q hn hq) (near_mul 1000 500000000 (pos d) c (near_pos 1000 d hd) hc)

regroup : (x y k l m : ℤ) → m ≡ k +ℤ l → (x +ℤ y) -ℤ m ≡ (x -ℤ k) +ℤ (y -ℤ l)
regroup x y k l m e = omega (arith, ints)

-- a schedule's gain is the sum of its entries' gains
pub gain_cons : (p : UnitModel) (r : Prices) (t a : ℕ) (e : Entry) (es : List Entry) → gain_from p r t a (e ∷ es) ≡ entry_gain p r t a e.state e.output +ℤ gain_from p r (t + 1) e.state es
gain_cons p r t a e es =
    let c = p.cost t a e.state e.output in
    let rest = cost_from p (t + 1) e.state es in
    let d = pos r.over in
    regroup (numerator_at r t *ℤ e.output) (revenue_from r (t + 1) es) (d *ℤ c) (d *ℤ rest) (d *ℤ (c +ℤ rest)) (mul_addℤ d c rest)

regroup_none : (d k : ℤ) → k ≡ pos 0 → pos 0 -ℤ k ≡ pos 0
regroup_none d k e = omega (arith, ints)

pub gain_nil : (p : UnitModel) (r : Prices) (t a : ℕ) → gain_from p r t a [] ≡ pos 0
gain_nil p r t a = regroup_none (pos r.over) (pos r.over *ℤ pos 0) (*ℤ-zero (pos r.over))

-- the first number that is not near is the first after those that are
not_not : (b : Bool) → not (not b) ≡ b
not_not true = refl
not_not false = refl

beyond_near : (m : ℕ) (xs : List ℤ) → position_or_len (λ z. not (near m z)) xs ≡ prefix_len (near m) xs
beyond_near m [] = refl
beyond_near m (x ∷ xs) = ap (λ b. cond b (1 + position_or_len (λ z. not (near m z)) xs) 0) (not_not (near m x)) ∙ ap (λ n. cond (near m x) (1 + n) 0) (beyond_near m xs)

pub first_beyond_is : (m : ℕ) (xs : List ℤ) (r : Option ℕ) → r ≡ position (λ z. not (near m z)) xs → r ≡ cond (ltb (prefix_len (near m) xs) (length xs)) (Some (prefix_len (near m) xs)) None
first_beyond_is m xs r e = e ∙ ap (λ n. cond (ltb n (length xs)) (Some n) None) (beyond_near m xs)

none_beyond : (m : ℕ) (xs : List ℤ) → cond (ltb (prefix_len (near m) xs) (length xs)) (Some (prefix_len (near m) xs)) None ≡ None → length xs ≤ prefix_len (near m) xs
none_beyond m xs = by (ltb (prefix_len (near m) xs) (length xs)) refl
  where
    by : (b : Bool) → ltb (prefix_len (near m) xs) (length xs) ≡ b → cond b (Some (prefix_len (near m) xs)) None ≡ None → length xs ≤ prefix_len (near m) xs
    by true e h = absurd (cc)
    by false e h = grind (arith, nat_tests)

-- nothing is wrong with a row of the day's length without such a number
pub row_fine : (T m : ℕ) (xs : List ℤ) (r : Option ℕ) → length xs ≡ T → r ≡ position (λ z. not (near m z)) xs → r ≡ None → row_fault T m xs None ≡ None
row_fine T m xs r long is none = by (eqb (length xs) T) refl (ltb (prefix_len (near m) xs) (length xs)) refl
  where
    all : length xs ≤ prefix_len (near m) xs
    all = none_beyond m xs (sym (first_beyond_is m xs r is) ∙ none)

    by : (b : Bool) → eqb (length xs) T ≡ b → (k : Bool) → ltb (prefix_len (near m) xs) (length xs) ≡ k → cond {A = Option Fault} b (cond k (Some (record { number = 23; place = prefix_len (near m) xs })) None) (Some (record { number = 22; place = 0 })) ≡ None
    by true e false f = refl
    by true e true f = let h = all in absurd (grind (arith, nat_tests))
    by false e k f = absurd (grind (arith, nat_tests))

-- a row with zeros after it: what is its own, and what is not
module _ (n : ℕ) (xs row : List ℤ) (long : length row ≡ n) (padded : xs ≡ row ++ replicate (48 - length row) (pos 0)) where
  pub padded_own : take n xs ≡ row
  padded_own = ap (take n) padded ∙ take_at row (replicate (48 - length row) (pos 0)) n long

  pub padded_unused : xs ≡ take n xs ++ replicate (48 - n) (pos 0)
  padded_unused = padded ∙ (λ i. sym padded_own i ++ replicate (48 - long i) (pos 0))

-- without such a number
pub padded_near : (m n : ℕ) (xs row : List ℤ) (r : Option ℕ) → take n xs ≡ row → length row ≡ n → r ≡ position (λ z. not (near m z)) row → r ≡ None → (k : ℕ) → k < n → near m (get_or xs k (pos 0)) ≡ true
padded_near m n xs row r e s is none k l =
    let all = none_beyond m row (sym (first_beyond_is m row r is) ∙ none) in
    ap (near m) (sym (get_or-take n xs k (pos 0) l) ∙ ap (λ ys. get_or ys k (pos 0)) e) ∙ prefix_len_passes (near m) row k (pos 0) (omega arith)

-- what an entry gains, from its parts
pub gain_entry : (p : UnitModel) (r : Prices) (t a b : ℕ) (q n c x : ℤ) (d : ℕ) → n ≡ numerator_at r t → d ≡ r.over → c ≡ p.cost t a b q → x ≡ (n *ℤ q) -ℤ (pos d *ℤ c) → x ≡ entry_gain p r t a b q
gain_entry p r t a b q n c x d en ed ec ex =
    ex
    ∙ ap (λ z. (z *ℤ q) -ℤ (pos d *ℤ c)) en
    ∙ ap (λ z. (numerator_at r t *ℤ q) -ℤ (pos z *ℤ c)) ed
    ∙ ap (λ z. (numerator_at r t *ℤ q) -ℤ (pos r.over *ℤ z)) ec
