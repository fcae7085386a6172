-- What is kept of the units when one of them changes. Assumes nothing.
use Rattle.std.proofs.Common.{◌≡◌, ℕ, ◌+◌, ◌*◌, ◌<◌, ◌≤◌, true, List, length, get_or, set, ℤ, pos, ◌+ℤ◌, ◌*ℤ◌, Some, None, Option, sym, ap, subst, mul_comm, mul-add, arith}
use Rattle.std.proofs.lemmas.List.Sums.{sum_by-set}
use Rattle.std.proofs.ByRecursion.{sum_by_le, All-from_get_or}
use Rattle.terms.specs.Numbers.{Near, near}
use Rattle.terms.proofs.Bounds.{near_test, near_true, near_add, near_more, near_mul, near_pos}
use Rattle.settlement.specs.declared.standing.Standing.{Standing}
use Rattle.settlement.specs.Standings.{counts, runs_in, mixed_of, weight_in}

counts_one : (o : Option Standing) → counts o ≤ 1
counts_one None = omega arith
counts_one (Some s) = omega arith

mixed_most : (o : Option Standing) → mixed_of o ≤ 1000
mixed_most None = omega arith
mixed_most (Some s) = s.light

pub runs_most : (xs : List (Option Standing)) → length xs ≡ 64 → runs_in xs ≤ 64
runs_most xs long = let h = sum_by_le counts 1 xs (All-from_get_or (λ x. counts x ≤ 1) xs None (λ i lt. counts_one (get_or xs i None))) in omega arith

pub weight_most : (xs : List (Option Standing)) → length xs ≡ 64 → weight_in xs ≤ 64000
weight_most xs long = let k = sum_by_le mixed_of 1000 xs (All-from_get_or (λ x. mixed_of x ≤ 1000) xs None (λ i lt. mixed_most (get_or xs i None))) in omega arith

-- one more run, one more mix
pub runs_more : (xs : List (Option Standing)) (u : ℕ) (s : Standing) → u < length xs → get_or xs u None ≡ None → runs_in (set xs u (Some s)) ≡ runs_in xs + 1
runs_more xs u s lt e = let h = sum_by-set counts xs u (Some s) None lt in let z = ap counts e in omega arith

pub weight_begun : (xs : List (Option Standing)) (u : ℕ) (s : Standing) → u < length xs → get_or xs u None ≡ None → s.mixed ≡ 0 → weight_in (set xs u (Some s)) ≡ weight_in xs
weight_begun xs u s lt e none = let h = sum_by-set mixed_of xs u (Some s) None lt in let z = ap mixed_of e in omega arith

pub runs_same : (xs : List (Option Standing)) (u : ℕ) (old s : Standing) → u < length xs → get_or xs u None ≡ Some old → runs_in (set xs u (Some s)) ≡ runs_in xs
runs_same xs u old s lt e = let h = sum_by-set counts xs u (Some s) None lt in let z = ap counts e in omega arith

pub weight_more : (xs : List (Option Standing)) (u w : ℕ) (old s : Standing) → u < length xs → get_or xs u None ≡ Some old → s.mixed ≡ old.mixed + w → weight_in (set xs u (Some s)) ≡ weight_in xs + w
weight_more xs u w old s lt e more = let h = sum_by-set mixed_of xs u (Some s) None lt in let z = ap mixed_of e in omega arith

-- a sum within k × n, and k' more that is within k × w
pub near_grown : (k n w : ℕ) (x y z : ℤ) → z ≡ x +ℤ y → near (k * n) x ≡ true → Near (k * w) y → near (k * (n + w)) z ≡ true
near_grown k n w x y z e h l =
    subst (λ a. near (k * (n + w)) a ≡ true) (sym e) (near_true (k * (n + w)) (x +ℤ y) (near_more (k * n + k * w) (k * (n + w)) (x +ℤ y) (spread k n w) (near_add (k * n) (k * w) x y (near_test (k * n) x h) l)))
  where
    spread : (k n w : ℕ) → k * n + k * w ≤ k * (n + w)
    spread k n w = let e = mul-add k n w in omega arith

-- the bounds of sums when a run or a mix of weight w enters
pub counted_more : (xs : List (Option Standing)) (u : ℕ) (s : Standing) (x y z : ℤ) → u < length xs → get_or xs u None ≡ None → z ≡ x +ℤ y → near (500 * runs_in xs) x ≡ true → Near 500 y → near (500 * runs_in (set xs u (Some s))) z ≡ true
counted_more xs u s x y z lt e sum h l = rw (runs_more xs u s lt e) (near_grown 500 (runs_in xs) 1 x y z sum h l)

pub weighted_more : (k : ℕ) (xs : List (Option Standing)) (u w : ℕ) (old s : Standing) (x y z : ℤ) → u < length xs → get_or xs u None ≡ Some old → s.mixed ≡ old.mixed + w → z ≡ x +ℤ y → near (k * weight_in xs) x ≡ true → Near (k * w) y → near (k * weight_in (set xs u (Some s))) z ≡ true
weighted_more k xs u w old s x y z lt e more sum h l = rw (weight_more xs u w old s lt e more) (near_grown k (weight_in xs) w x y z sum h l)

pub near_factor : (k w : ℕ) (z : ℤ) → Near k z → Near (k * w) (pos w *ℤ z)
near_factor k w z h = subst (λ n. Near n (pos w *ℤ z)) (mul_comm w k) (near_mul w k (pos w) z (near_pos w w (omega arith)) h)
