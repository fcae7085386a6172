-- A lake by its levels, which are its states. Assumes nothing.
use Rattle.std.specs.Prelude.{ℕ, ◌+◌, ◌-◌, ◌*◌, ◌/◌, ◌≤◌, Bool, cond, ℤ, pos, neg_ℤ, nat_le}
use Rattle.reader.specs.declared.numbers.Flow.{Flow}
use Rattle.reader.specs.declared.numbers.LakeNumbers.{LakeNumbers}
use Rattle.units.specs.Links.{Links}

-- what a rise draws: the rise and three tenths of it, rounded up
abbrev pub drawn : ℕ → ℕ
drawn r = r + (3 * r + 9) / 10

-- d is the least whole number of at least thirteen tenths of the rise
pub record Draws (r d : ℕ) : Type 0 where
  pub enough : 13 * r ≤ 10 * d
  pub least : (n : ℕ) → 13 * r ≤ 10 * n → d ≤ n

-- what goes out where the level goes from a to b: a fall, or minus the draw of a rise
abbrev pub flow : ℕ → ℕ → ℤ
flow a b = cond (nat_le b a) (pos (a - b)) (neg_ℤ (pos (drawn (b - a))))

abbrev pub may_flow : Flow → ℕ → ℕ → Bool
may_flow f a b = cond (nat_le b a) (nat_le (a - b) f.fall) (nat_le (b - a) f.rise)

-- how far the level moves
abbrev pub distance : ℕ → ℕ → ℕ
distance a b = a - b + (b - a)

abbrev pub lake_links : LakeNumbers → Links
lake_links n = record {
  states = n.full + 1;
  start = n.was;
  linked = may_flow n.flow;
  outputs = λ a b. record { lo = flow a b; hi = flow a b };
  charge = λ a b q. pos (n.wear * distance a b);
  ends = λ a. nat_le n.end a;
}
