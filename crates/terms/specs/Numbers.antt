-- Bounds either way of zero. Assumes nothing.
use Rattle.std.specs.Prelude.{ℕ, Bool, ◌&&◌, ℤ, pos, neg_ℤ, ◌≤ℤ◌, int_le}

-- z lies within ±m
pub record Near (m : ℕ) (z : ℤ) : Type 0 where
  pub low : neg_ℤ (pos m) ≤ℤ z
  pub high : z ≤ℤ pos m

-- the test of it
abbrev pub near : ℕ → ℤ → Bool
near m z = int_le (neg_ℤ (pos m)) z && int_le z (pos m)
