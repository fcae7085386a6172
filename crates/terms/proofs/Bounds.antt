-- Numbers near zero: sums, products, and that they fit a machine number. Assumes nothing.
use Rattle.std.proofs.Common.{◌≡◌, ℕ, suc, ◌+◌, ◌*◌, ◌^◌, ◌<◌, ◌≤◌, true, ℤ, pos, negsuc, ◌+ℤ◌, ◌-ℤ◌, ◌*ℤ◌, neg_ℤ, nat_abs, ◌≤ℤ◌, sym, subst, mul-le-mul, arith, w32, w64, SFits, to_z, of_z}
use Rattle.std.proofs.lemmas.Int.{ints, to_z-of_z}
use Rattle.std.proofs.lemmas.Bool.{and_parts, and_from}
use Rattle.terms.specs.Numbers.{Near, near}
use Rattle.terms.proofs.Ints.{le_test, test_le}

pub near_test : (m : ℕ) (z : ℤ) → near m z ≡ true → Near m z
near_test m z h = let k = and_parts _ _ h in record { low = test_le (neg_ℤ (pos m)) z k.0; high = test_le z (pos m) k.1 }

pub near_true : (m : ℕ) (z : ℤ) → Near m z → near m z ≡ true
near_true m z h = and_from _ _ (le_test (neg_ℤ (pos m)) z h.low) (le_test z (pos m) h.high)

pub near_abs : (m : ℕ) (z : ℤ) → Near m z → nat_abs z ≤ m
near_abs m (pos n) h = omega (arith, ints)
near_abs m (negsuc n) h = omega (arith, ints)

near_neg : (m n : ℕ) → n ≤ m → Near m (neg_ℤ (pos n))
near_neg m n h = record { low = omega (arith, ints); high = omega (arith, ints) }

pub near_pos : (m n : ℕ) → n ≤ m → Near m (pos n)
near_pos m n h = record { low = omega (arith, ints); high = omega (arith, ints) }

pub near_zero : (m : ℕ) → Near m (pos 0)
near_zero m = record { low = omega (arith, ints); high = omega (arith, ints) }

pub near_more : (m n : ℕ) (z : ℤ) → m ≤ n → Near m z → Near n z
near_more m n z le h = record { low = omega (arith, ints); high = omega (arith, ints) }

pub near_mul : (m n : ℕ) (x y : ℤ) → Near m x → Near n y → Near (m * n) (x *ℤ y)
near_mul m n (pos x) (pos y) h k = near_pos (m * n) (x * y) (mul-le-mul (near_abs m (pos x) h) (near_abs n (pos y) k))
near_mul m n (pos x) (negsuc y) h k = near_neg (m * n) (x * suc y) (mul-le-mul (near_abs m (pos x) h) (near_abs n (negsuc y) k))
near_mul m n (negsuc x) (pos y) h k = near_neg (m * n) (suc x * y) (mul-le-mul (near_abs m (negsuc x) h) (near_abs n (pos y) k))
near_mul m n (negsuc x) (negsuc y) h k = near_pos (m * n) (suc x * suc y) (mul-le-mul (near_abs m (negsuc x) h) (near_abs n (negsuc y) k))

pub near_sub : (m n : ℕ) (x y : ℤ) → Near m x → Near n y → Near (m + n) (x -ℤ y)
near_sub m n x y h k = record { low = omega (arith, ints); high = omega (arith, ints) }

pub near_add : (m n : ℕ) (x y : ℤ) → Near m x → Near n y → Near (m + n) (x +ℤ y)
near_add m n x y h k = record { low = omega (arith, ints); high = omega (arith, ints) }

-- between two numbers near zero
pub near_between : (m : ℕ) (lo hi z : ℤ) → Near m lo → Near m hi → lo ≤ℤ z → z ≤ℤ hi → Near m z
near_between m lo hi z l h a b = record { low = omega (arith, ints); high = omega (arith, ints) }

pub fits_64 : (m : ℕ) (z : ℤ) → m < 2 ^ 63 → Near m z → SFits w64 z
fits_64 m (pos n) lt h = record { sfits = omega (arith, ints) }
fits_64 m (negsuc n) lt h = record { sfits = omega (arith, ints) }

pub fits_32 : (m : ℕ) (z : ℤ) → m < 2 ^ 31 → Near m z → SFits w32 z
fits_32 m (pos n) lt h = record { sfits = omega (arith, ints) }
fits_32 m (negsuc n) lt h = record { sfits = omega (arith, ints) }

-- as a call passes it, to its bits and back
pub near_32 : (m : ℕ) (z : ℤ) → m < 2 ^ 31 → Near m z → Near m (to_z w32 (of_z w32 z))
near_32 m z lt h = subst (Near m) (sym (to_z-of_z w32 z (fits_32 m z lt h))) h

pub near_64 : (m : ℕ) (z : ℤ) → m < 2 ^ 63 → Near m z → Near m (to_z w64 (of_z w64 z))
near_64 m z lt h = subst (Near m) (sym (to_z-of_z w64 z (fits_64 m z lt h))) h

-- and the other way
pub fits_near_32 : (z : ℤ) → SFits w32 z → Near (2 ^ 31) z
fits_near_32 (pos n) f = let h = f.sfits in record { low = omega (arith, ints); high = omega (arith, ints) }
fits_near_32 (negsuc n) f = let h = f.sfits in record { low = omega (arith, ints); high = omega (arith, ints) }
