-- The draw of a rise. Assumes nothing.
use Rattle.std.proofs.Common.{ℕ, ◌≤◌, arith}
use Rattle.units.specs.LakeUnits.{drawn, Draws}
use Rattle.units.specs.LakeRules.{OneToOne}

pub drawn_least : (r : ℕ) → Draws r (drawn r)
drawn_least r = record { enough = omega arith; least = λ n h. omega arith }

pub one_to_one : OneToOne
one_to_one r = omega arith

pub draws_something : (r : ℕ) → 1 ≤ r → 1 ≤ drawn r
draws_something r l = omega arith
