-- What is asked of a unit at a day's prices. Assumes nothing.
use Rattle.std.specs.Prelude.{ℕ}
use Rattle.fleet.specs.declared.search.UnitDay.{UnitDay}
use Rattle.fleet.specs.Units.{UnitModel, Meaning}
use Rattle.fleet.specs.Schedules.{Prices}
use Rattle.fleet.specs.Rows.{prices_of, periods_of}

-- the unit, as the fleet's meaning has it
abbrev pub model_of : {F : Type 0} → (F → Meaning) → UnitDay F → UnitModel
model_of mean d = (mean d.fleet.now).model d.unit

-- a fact about a unit at prices, said of this one
abbrev pub of_unit : {F : Type 0} {X : Type 1} → (F → Meaning) → UnitDay F → (UnitModel → Prices → X) → X
of_unit mean d Is = Is (model_of mean d) (prices_of d.row.now)

-- the same, over the day's periods
abbrev pub of_day : {F : Type 0} {X : Type 1} → (F → Meaning) → UnitDay F → (UnitModel → Prices → ℕ → X) → X
of_day mean d Is = Is (model_of mean d) (prices_of d.row.now) (periods_of d.row.now)
