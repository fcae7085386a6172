-- What each call answers, and what it leaves. Assumes nothing.
use Rattle.std.specs.Prelude.{◌≡◌, ℕ, ◌<◌, ◌≤◌, Bool, true, false, not, ◌&&◌, ◌⊎◌, ◌↔◌, List, [], length, take, ℤ, Some, None, Ok, Err, Option, Result, ◌==◌, ◌≢◌, nat_le}
use Rattle.terms.specs.Declines.{Says, number_of}
use Rattle.terms.specs.declared.decline.Decline.{Decline}
use Rattle.terms.specs.declared.decline.Layer.TheVariants.{Docket as DocketLayer, Fleet as FleetLayer}
use Rattle.terms.specs.declared.entry.Entry.{Entry}
use Rattle.fleet.specs.declared.rows.PriceRow.{PriceRow}
use Rattle.fleet.specs.Units.{Meaning, UnitModel}
use Rattle.fleet.specs.Schedules.{Allowed, FirstBad, gain_of}
use Rattle.fleet.specs.Rows.{Fault, prices_of}
use Rattle.fleet.specs.Gains.{Supply, First}
use Rattle.fleet.specs.Answers.{BufferKept}
use Rattle.settlement.specs.declared.stages.Stage.{Stage}
use Rattle.settlement.specs.declared.stages.Stage.TheVariants.{Blank, Needed, Priced}
use Rattle.settlement.specs.declared.stages.Rows.{Rows}
use Rattle.settlement.specs.declared.counted.Counted.{Counted}
use Rattle.settlement.specs.declared.docket.Docket.{Docket}
use Rattle.settlement.specs.declared.docket.Unopened.{Unopened}
use Rattle.settlement.specs.Ledger.{Ledger, Call, supply, show, check}
use Rattle.settlement.specs.Reasons.{Declined, Answered, here, reason, nothing}
use Rattle.settlement.specs.declared.verdicts.Judgement.{Judgement}
use Rattle.settlement.specs.Weighing.{Weighed, verdict_of}
use Rattle.settlement.specs.Follow.{Follows}

-- opening --

abbrev pub open_fault : Meaning → ℕ → ℕ → Option Fault
open_fault m T W = check (not (m.units == 0)) 11 0 (check ((nat_le 1 T && nat_le T 48) && (nat_le 1 W && nat_le W 1000)) 12 0 None)

-- the fleet has a unit, the periods are 1 to 48, the weight is 1 to 1,000
pub record Opens (m : Meaning) (T W : ℕ) : Type 0 where
  pub units : m.units ≢ 0
  pub periods : (1 ≤ T) × (T ≤ 48)
  pub weight : (1 ≤ W) × (W ≤ 1000)

-- why no docket opens, in rising number
abbrev pub unopened_by : Meaning → ℕ → ℕ → Fault → Type 0
unopened_by m T W =
    reason 11 (here 0 (m.units ≡ 0))
    (reason 12 (here 0 (((T < 1) ⊎ (48 < T)) ⊎ ((W < 1) ⊎ (1000 < W)))) nothing)

-- one opens exactly where it may, and what it is declined with is the first reason that applies
pub record OpenLaw : Type 0 where
  pub none : (m : Meaning) (T W : ℕ) → (open_fault m T W ≡ None) ↔ Opens m T W
  pub some : (m : Meaning) (T W : ℕ) (f : Fault) → (open_fault m T W ≡ Some f) ↔ unopened_by m T W f

-- a docket over this fleet that follows no calls; or the fleet, given back, with 11 or 12
abbrev pub Opened : {F : Type 0} → (F → Meaning) → F → ℕ → ℕ → Result (Docket F) (Unopened F) → Type 0
Opened mean fleet T W (Ok d) = (open_fault (mean fleet) T W ≡ None) × (d.fleet ≡ fleet) × Follows mean (mean fleet) T W [] d × Opens (mean fleet) T W
Opened mean fleet T W (Err e) = ((f : Fault) × (open_fault (mean fleet) T W ≡ Some f) × Says FleetLayer f.number f.place e.decline × unopened_by (mean fleet) T W f) × (e.fleet ≡ fleet)

-- answers --

-- of need, price, run and mix
abbrev pub Enters : Call → Result (Unit {0}) Decline → Meaning → ℕ → ℕ → Ledger → Type 0
Enters c r m T W l = Answered (Declined m T W l c) (λ _. Unit {0}) r

-- of supply, with the lengths of its tables
abbrev pub Supplies : ℕ → ℕ → ℕ → Result (ℤ × ℤ × ℤ) Decline → Meaning → ℕ → ℕ → Ledger → Type 0
Supplies u fewer more r m T W l = Answered (Declined m T W l (supply u fewer more)) (Supply (m.model u) T l.prices) r

-- of show, with the length of its table and the buffer before and after
abbrev pub Shows : ℕ → ℕ → List Entry → List Entry → Result (Unit {0}) Decline → Meaning → ℕ → ℕ → Ledger → Type 0
Shows u slots old new r m T W l = Answered (Declined m T W l (show u slots (length old))) (λ _. First (m.model u) T l.prices (take T new)) r × BufferKept T old new r

-- what is left --

-- the call went through the unit's schedules: an answer, 31 or 32
abbrev pub Searching : {Y : Type 0} → Result Y Decline → Type 0
Searching (Ok y) = Unit {0}
Searching (Err d) = (number_of d.cause ≡ 31) ⊎ (number_of d.cause ≡ 32)

-- a work table is free: its length is kept and no more is promised; but untouched where the
-- schedules were not gone through
pub record WorkTable {X Y : Type 0} (old new : List X) (r : Result Y Decline) : Type 0 where
  pub long : length new ≡ length old
  pub untouched : (Searching r → ⊥) → new ≡ old

-- parts of the calls --

abbrev pub at_priced : Stage → Bool
at_priced Blank = false
at_priced (Needed needs) = false
at_priced (Priced rows) = true

-- the price row for a unit's call: 21, then 24
abbrev pub UnitPrices : Meaning → Stage → ℕ → Result PriceRow Decline → Type 0
UnitPrices m s u (Ok row) = ((rows : Rows) × (s ≡ Priced rows) × (row ≡ rows.prices)) × (u < m.units)
UnitPrices m s u (Err d) = ((at_priced s ≡ false) × Says DocketLayer 21 u d) ⊎ ((at_priced s ≡ true) × (m.units ≤ u) × Says DocketLayer 24 u d)

-- an allowed schedule with its gain: 26, then 27
abbrev pub Accounted : UnitModel → ℕ → PriceRow → ℕ → List Entry → Result Counted Decline → Type 0
Accounted p T row u es (Ok k) = (length es ≡ T) × Allowed p es × (k.gain ≡ gain_of p (prices_of row) es) × (k.schedule.now ≡ es)
Accounted p T row u es (Err d) = ((length es ≢ T) × Says DocketLayer 26 u d) ⊎ ((length es ≡ T) × FirstBad p es d.place × Says DocketLayer 27 d.place d)

-- a verdict on the docket's sheet, or the first of 41 to 44
abbrev pub VerdictGiven : {F : Type 0} → Meaning → Docket F → Rows → Result Judgement Decline → Type 0
VerdictGiven m d rows (Ok j) =
    Weighed m.units d.periods.count d.weight rows.needs d.sheet (Ok j.uplift)
    × (j.gap ≡ d.sheet.gap) × (j.verdict ≡ verdict_of d.sheet.gap) × (j.over ≡ rows.prices.over) × (j.weight ≡ d.weight)
VerdictGiven m d rows (Err e) = Weighed m.units d.periods.count d.weight rows.needs d.sheet (Err e)
