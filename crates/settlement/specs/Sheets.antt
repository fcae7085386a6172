-- What the sheet's own functions do. Assumes nothing.
use Rattle.std.specs.Prelude.{◌≡◌, ℕ, ◌+◌, List, replicate, ℤ, pos, ◌+ℤ◌, ◌-ℤ◌, ◌*ℤ◌, Some, None, Ok, Err, Option, Result, slice_index_or, slice_set}
use Rattle.terms.specs.Declines.{Says}
use Rattle.terms.specs.declared.decline.Decline.{Decline}
use Rattle.terms.specs.declared.decline.Layer.TheVariants.{Docket}
use Rattle.settlement.specs.declared.stages.Stage.{Stage}
use Rattle.settlement.specs.declared.stages.Stage.TheVariants.{Blank, Needed, Priced}
use Rattle.settlement.specs.declared.stages.Rows.{Rows}
use Rattle.settlement.specs.declared.stages.Call.{Call}
use Rattle.settlement.specs.declared.standing.Standing.{Standing}
use Rattle.settlement.specs.declared.sheet.Sheet.{Sheet}
use Rattle.terms.specs.declared.entry.Entry.{Entry}
use Rattle.settlement.specs.Stages.{StageTakes}
use Rattle.settlement.specs.Evidence.{lots_at}

pub record BlankSheet (s : Sheet) : Type 0 where
  pub stage_is : s.stage ≡ Blank
  pub units_are : s.units ≡ replicate 64 None
  pub runs_are : s.runs ≡ replicate 48 (pos 0)
  pub mixes_are : s.mixes ≡ replicate 48 (pos 0)
  pub gap_is : s.gap ≡ pos 0

-- all but the stage is as it was
pub record SameSums (old new : Sheet) : Type 0 where
  pub units_are : new.units ≡ old.units
  pub runs_are : new.runs ≡ old.runs
  pub mixes_are : new.mixes ≡ old.mixes
  pub gap_is : new.gap ≡ old.gap

-- the stage takes the call or declines it
abbrev pub CallEntered : ℕ → Stage → Call → Stage → Result (Unit {0}) Decline → Type 0
CallEntered T old c new (Ok x) = (given : Option Rows) × StageTakes T old c new (Ok given)
CallEntered T old c new (Err d) = StageTakes T old c new (Err d)

-- a call that asks for the rows is given them at priced, else 21
abbrev pub RowsAt : Stage → ℕ → Result Rows Decline → Type 0
RowsAt (Priced rows) place (Ok x) = x ≡ rows
RowsAt (Priced rows) place (Err d) = ⊥
RowsAt Blank place (Ok x) = ⊥
RowsAt Blank place (Err d) = Says Docket 21 place d
RowsAt (Needed needs) place (Ok x) = ⊥
RowsAt (Needed needs) place (Err d) = Says Docket 21 place d

-- a run is noted: its unit stands, with no mixes yet, and its lots are added
pub record RunNoted (u : ℕ) (gain best : ℤ) (es : List Entry) (old new : Sheet) : Type 0 where
  pub stage_is : new.stage ≡ old.stage
  pub standing : Standing
  pub units_are : new.units ≡ slice_set old.units u (Some standing)
  pub gain_is : standing.gain ≡ gain
  pub best_is : standing.best ≡ best
  pub mixed_is : standing.mixed ≡ 0
  pub runs_are : (t : ℕ) → slice_index_or new.runs t (pos 0) ≡ slice_index_or old.runs t (pos 0) +ℤ lots_at es t
  pub mixes_are : new.mixes ≡ old.mixes
  pub gap_is : new.gap ≡ old.gap

-- a mix is noted: its weight, its lots by weight, and what it lacks of the best gain by weight are added
pub record MixNoted (u : ℕ) (s : Standing) (w : ℕ) (gain : ℤ) (es : List Entry) (old new : Sheet) : Type 0 where
  pub stage_is : new.stage ≡ old.stage
  pub standing : Standing
  pub units_are : new.units ≡ slice_set old.units u (Some standing)
  pub gain_is : standing.gain ≡ s.gain
  pub best_is : standing.best ≡ s.best
  pub mixed_is : standing.mixed ≡ s.mixed + w
  pub runs_are : new.runs ≡ old.runs
  pub mixes_are : (t : ℕ) → slice_index_or new.mixes t (pos 0) ≡ slice_index_or old.mixes t (pos 0) +ℤ (pos w *ℤ lots_at es t)
  pub gap_is : new.gap ≡ old.gap +ℤ (pos w *ℤ (s.best -ℤ gain))
