-- Pay and uplift at every price row. Assumes nothing.
use Rattle.std.specs.Prelude.{ℕ, List, ℤ, pos, ◌-ℤ◌, Some, None, Option}
use Rattle.terms.specs.Sums.{sum_to}
use Rattle.terms.specs.declared.entry.Entry.{Entry}
use Rattle.fleet.specs.Units.{UnitModel, Meaning}
use Rattle.fleet.specs.Schedules.{Prices, gain_of}
use Rattle.fleet.specs.Gains.{best_gain}

abbrev pub or_zero : Option ℤ → ℤ
or_zero None = pos 0
or_zero (Some g) = g

-- the best gain, 0 where no schedule is allowed
abbrev pub best : UnitModel → ℕ → Prices → ℤ
best p T r = or_zero (best_gain p T r)

-- the best gain less the run's gain
abbrev pub pay_of : UnitModel → ℕ → Prices → List Entry → ℤ
pay_of p T r es = best p T r -ℤ gain_of p r es

-- the sum of the pays of one run a unit
abbrev pub uplift_of : Meaning → ℕ → Prices → (ℕ → List Entry) → ℤ
uplift_of m T r runs = sum_to m.units (λ u. pay_of (m.model u) T r (runs u))
