-- How a docket follows the plain ledger. Assumes nothing.
use Rattle.std.specs.Prelude.{◌≡◌, ℕ, List, [], ◌∷◌, ◌++◌, pos, Some, None, Option, slice_index_or}
use Rattle.terms.specs.declared.entry.Entry.{Entry}
use Rattle.fleet.specs.Units.{Meaning}
use Rattle.fleet.specs.Schedules.{gain_of}
use Rattle.fleet.specs.Rows.{NeedRowOf, PriceRowOf}
use Rattle.fleet.specs.Gains.{best_gain}
use Rattle.settlement.specs.declared.stages.Stage.{Stage}
use Rattle.settlement.specs.declared.stages.Stage.TheVariants.{Blank, Needed, Priced}
use Rattle.settlement.specs.declared.standing.Standing.{Standing}
use Rattle.settlement.specs.declared.sheet.Sheet.{Sheet}
use Rattle.settlement.specs.declared.docket.Docket.{Docket}
use Rattle.settlement.specs.Ledger.{Ledger, Call, blank, needed, priced, weighs, ledger}
use Rattle.settlement.specs.Evidence.{run_lots, mix_lots, gap_at}

-- the stage, with the rows that were entered
abbrev pub StageFollows : ℕ → Ledger → Stage → Type 0
StageFollows T l Blank = l.stage ≡ blank
StageFollows T l (Needed needs) = (l.stage ≡ needed) × NeedRowOf T l.needs needs
StageFollows T l (Priced rows) = (l.stage ≡ priced) × NeedRowOf T l.needs rows.needs × PriceRowOf T l.prices.over l.prices.numerators rows.prices

-- what is kept of a unit that has a run
pub record Stands (m : Meaning) (T : ℕ) (l : Ledger) (u : ℕ) (s : Standing) : Type 0 where
  pub run : List Entry
  pub ran : l.runs u ≡ Some run
  pub gain_is : s.gain ≡ gain_of (m.model u) l.prices run
  pub best_is : best_gain (m.model u) T l.prices ≡ Some s.best
  pub mixed_is : s.mixed ≡ weighs u l.mixes

abbrev pub UnitFollows : Meaning → ℕ → Ledger → ℕ → Option Standing → Type 0
UnitFollows m T l u None = l.runs u ≡ None
UnitFollows m T l u (Some s) = Stands m T l u s

-- the sheet holds the ledger's rows, and sums of its runs and mixes
pub record SheetFollows (m : Meaning) (T : ℕ) (l : Ledger) (s : Sheet) : Type 0 where
  pub stage_is : StageFollows T l s.stage
  pub units_are : (u : ℕ) → UnitFollows m T l u (slice_index_or s.units u None)
  pub runs_are : (t : ℕ) → slice_index_or s.runs t (pos 0) ≡ run_lots m l t
  pub mixes_are : (t : ℕ) → slice_index_or s.mixes t (pos 0) ≡ mix_lots l t
  pub gap_is : s.gap ≡ gap_at m T l.prices l

-- the docket is over a fleet of this meaning, with T periods and weight W, and its sheet follows the ledger of the calls
pub record Follows {F : Type 0} (mean : F → Meaning) (m : Meaning) (T W : ℕ) (cs : List Call) (d : Docket F) : Type 0 where
  pub fleet_is : mean d.fleet ≡ m
  pub periods_are : d.periods.count ≡ T
  pub weight_is : d.weight ≡ W
  pub sheet_is : SheetFollows m T (ledger m T W cs) d.sheet

-- whatever calls led to the docket, it goes on with one more over the same fleet, periods and weight, and what is said
-- holds at the ledger before it
abbrev pub GoesOn : {F : Type 0} → (F → Meaning) → Docket F → Docket F → Call → (Meaning → ℕ → ℕ → Ledger → Type 0) → Type 0
GoesOn mean old new c AnsweredSo = (m : Meaning) (T W : ℕ) (cs : List Call) → Follows mean m T W cs old → Follows mean m T W (cs ++ (c ∷ [])) new × AnsweredSo m T W (ledger m T W cs)
