-- A fleet of one unit that has to be home at the end of the day. Assumes nothing.
use Rattle.std.specs.Prelude.{ℕ, Bool, cond, ◌&&◌, pos, Some, None, ◌==◌, nat_lt}
use Rattle.fleet.specs.declared.records.Range.{Range}
use Rattle.fleet.specs.Units.{UnitModel, Meaning}

-- in each period from home or away to either
abbrev pub goes : ℕ → ℕ → ℕ → ℕ → Bool
goes u t a b = u == 0 && (nat_lt t 48 && (nat_lt a 2 && nat_lt b 2))

abbrev pub lots : Range
lots = record { lo = pos 0; hi = pos 9 }

abbrev pub homing_unit : ℕ → UnitModel
homing_unit u = record {
  states = cond (u == 0) 2 1;
  start = 0;
  arc = λ t a b. cond (goes u t a b) (Some lots) None;
  cost = λ t a b q. pos 0;
  ends = λ a. (u == 0) && (a == 0);
}

abbrev pub homing_meaning : Meaning
homing_meaning = record { units = 1; model = homing_unit }
