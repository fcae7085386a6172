-- What each stage makes of a call. Assumes nothing.
use Rattle.std.specs.Prelude.{◌≡◌, ℕ, List, ℤ, Some, None, Ok, Err, Option, Result}
use Rattle.terms.specs.Declines.{Says}
use Rattle.terms.specs.declared.decline.Decline.{Decline}
use Rattle.terms.specs.declared.decline.Layer.TheVariants.{Docket}
use Rattle.fleet.specs.Rows.{Made, need_fault, price_fault, NeedRowOf, PriceRowOf}
use Rattle.fleet.specs.declared.rows.NeedRow.{NeedRow}
use Rattle.fleet.specs.declared.rows.PriceRow.{PriceRow}
use Rattle.settlement.specs.declared.stages.Stage.{Stage}
use Rattle.settlement.specs.declared.stages.Stage.TheVariants.{Blank, Needed, Priced}
use Rattle.settlement.specs.declared.stages.Rows.{Rows}
use Rattle.settlement.specs.declared.stages.Call.{Call}
use Rattle.settlement.specs.declared.stages.Call.TheVariants.{Need, Price, Run, Mix, Supply, Show, Judge}

-- the unit of a unit's call, else 0
abbrev pub call_place : Call → ℕ
call_place (Need xs) = 0
call_place (Price d ns) = 0
call_place (Run u es) = u
call_place (Mix u w es) = u
call_place (Supply u) = u
call_place (Show u) = u
call_place Judge = 0

-- need and price enter a row, the other calls ask for the rows
abbrev pub AsksRows : Call → Type 0
AsksRows (Need xs) = ⊥
AsksRows (Price d ns) = ⊥
AsksRows c = Unit {0}

-- a need row enters and moves the stage, or is declined and leaves it
abbrev pub NeedMade : ℕ → List ℤ → Stage → Result (Option Rows) Decline → Type 0
NeedMade T xs new (Ok None) = (row : NeedRow) × (new ≡ Needed row) × NeedRowOf T xs row × (need_fault T xs ≡ None)
NeedMade T xs new (Ok (Some rows)) = ⊥
NeedMade T xs new (Err d) = (new ≡ Blank) × Made {X = NeedRow} (need_fault T xs) (NeedRowOf T xs) (Err d)

-- and so does a price row
abbrev pub PriceMade : ℕ → NeedRow → ℕ → List ℤ → Stage → Result (Option Rows) Decline → Type 0
PriceMade T needs d ns new (Ok None) = (row : PriceRow) × (new ≡ Priced (record { needs = needs; prices = row })) × PriceRowOf T d ns row × (price_fault T d ns ≡ None)
PriceMade T needs d ns new (Ok (Some rows)) = ⊥
PriceMade T needs d ns new (Err e) = (new ≡ Needed needs) × Made {X = PriceRow} (price_fault T d ns) (PriceRowOf T d ns) (Err e)

-- the rows are given, and the stage stays
abbrev pub Given : Rows → Stage → Result (Option Rows) Decline → Type 0
Given rows new (Ok None) = ⊥
Given rows new (Ok (Some x)) = (x ≡ rows) × (new ≡ Priced rows)
Given rows new (Err d) = ⊥

-- 21 at the call's place, and the stage stays
abbrev pub Refused : Stage → Call → Stage → Result (Option Rows) Decline → Type 0
Refused old c new (Ok x) = ⊥
Refused old c new (Err d) = Says Docket 21 (call_place c) d × (new ≡ old)

-- by stage and call: blank takes need, needed takes price, priced takes the others
abbrev pub StageTakes : ℕ → Stage → Call → Stage → Result (Option Rows) Decline → Type 0
StageTakes T Blank (Need xs) new r = NeedMade T xs.now new r
StageTakes T (Needed needs) (Price d ns) new r = PriceMade T needs d ns.now new r
StageTakes T (Priced rows) (Run u es) new r = Given rows new r
StageTakes T (Priced rows) (Mix u w es) new r = Given rows new r
StageTakes T (Priced rows) (Supply u) new r = Given rows new r
StageTakes T (Priced rows) (Show u) new r = Given rows new r
StageTakes T (Priced rows) Judge new r = Given rows new r
StageTakes T old c new r = Refused old c new r
