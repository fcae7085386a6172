-- A ramp unit by its states: off is state 0, output LO + j - 1 is state j. Assumes nothing.
use Rattle.std.specs.Prelude.{ℕ, ◌+◌, ◌-◌, Bool, true, cond, ◌&&◌, ℤ, pos, ◌+ℤ◌, ◌==◌, nat_le, nat_lt}
use Rattle.fleet.specs.declared.records.Range.{Range}
use Rattle.reader.specs.declared.numbers.Run.{Run}
use Rattle.reader.specs.declared.numbers.Rate.{Rate}
use Rattle.reader.specs.declared.numbers.RampNumbers.{RampNumbers}
use Rattle.units.specs.Fill.{fill}
use Rattle.units.specs.Links.{Links}

abbrev pub output_in : Run → ℕ → ℕ
output_in r a = cond (a == 0) 0 (r.lo + a - 1)

abbrev pub state_at : Run → ℕ → ℕ
state_at r n = cond (nat_lt 0 n) (n + 1 - r.lo) 0

-- from m lots to n lots: from on to on by at most the step; from off, or to off, at most the edge
abbrev pub may_move : Rate → ℕ → ℕ → Bool
may_move v m n =
    cond (nat_lt 0 m) (cond (nat_lt 0 n) (nat_le n (m + v.step) && nat_le m (n + v.step)) (nat_le m v.edge))
    (cond (nat_lt 0 n) (nat_le n v.edge) true)

abbrev pub just : ℕ → Range
just n = record { lo = pos n; hi = pos n }

-- what a period at n lots costs, after one at m lots
abbrev pub ramp_charge : RampNumbers → ℕ → ℕ → ℤ
ramp_charge r m n = cond (nat_lt 0 n) (pos (r.idle + cond (nat_lt 0 m) 0 r.start) +ℤ fill r.steps.places n) (pos 0)

abbrev pub ramp_links : RampNumbers → Links
ramp_links n = record {
  states = n.run.hi - n.run.lo + 2;
  start = state_at n.run n.was;
  linked = λ a b. may_move n.rate (output_in n.run a) (output_in n.run b);
  outputs = λ a b. just (output_in n.run b);
  charge = λ a b q. ramp_charge n (output_in n.run a) (output_in n.run b);
  ends = λ a. true;
}
