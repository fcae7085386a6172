-- The days at the edge. Assumes nothing.
use Rattle.std.specs.Prelude.{List, ◌≤◌, length, Result, ◌≡◌, [], ◌∷◌, ℕ, ℤ, pos}
use Rattle.fleet.specs.Gains.{Supply, First}
use Rattle.fleet.specs.Rows.{Fault}
use Rattle.fleet.specs.Uplifts.{pay_of}
use Rattle.units.specs.Agree.{ScheduleOf}
use Rattle.units.specs.LakeUnits.{drawn}
use Rattle.settlement.specs.Ledger.{Ledger, judge, supply, ledger}
use Rattle.settlement.specs.Evidence.{Evidence, AllBest, run_of, uplift_at, gap_at}
use Rattle.settlement.specs.Reasons.{Declined}
use Rattle.settlement.specs.declared.verdicts.Judgement.{Judgement}
use Rattle.settlement.specs.declared.verdicts.Verdict.{Verdict}
use Rattle.settlement.specs.declared.verdicts.Verdict.TheVariants.{Least, Within}
use Rattle.settlement.specs.Verdicts.{Judges, SaysVerdict}
use Rattle.terms.specs.declared.decline.Decline.{Decline}
use Rattle.edge_days.specs.Days.{both, on, calls, never_off, day_at, ramping, filling, nothing_asked}

abbrev pub at_place : ℕ → ℕ → Fault
at_place number place = record { number = number; place = place }

-- the evidence of the worked day is whole, judge declines nothing, and these are its numbers
pub record ComesTo (l : Ledger) (uplift gap first second : ℤ) : Type 0 where
  pub evidence : Evidence both 1 2 l
  pub answered : (f : Fault) → Declined both 1 2 l (judge 2) f → ⊥
  pub uplift_is : uplift_at both 1 l.prices l ≡ uplift
  pub gap_is : gap_at both 1 l.prices l ≡ gap
  pub first_pay : pay_of (both.model 0) 1 l.prices (run_of l 0) ≡ first
  pub second_pay : pay_of (both.model 1) 1 l.prices (run_of l 1) ≡ second

-- whatever judge answers there, it bears this verdict
abbrev pub Judged : Ledger → Verdict → Type 0
Judged l v = (old new : List ℤ) (r : Result Judgement Decline) → 2 ≤ length old → Judges both 1 2 l old new r → SaysVerdict v r

pub record EdgeDays : Type 0 where
  -- at 6 cents every mix gains the best, so LEAST
  pub at_six : ComesTo (day_at 6) (pos 2) (pos 0) (pos 2) (pos 0)
  pub least : AllBest both 1 (day_at 6)
  pub says_least : Judged (day_at 6) Least
  -- at 5 cents one does not, so WITHIN
  pub at_five : ComesTo (day_at 5) (pos 4) (pos 4) (pos 0) (pos 4)
  pub within : AllBest both 1 (day_at 5) → ⊥
  pub says_within : Judged (day_at 5) Within
  -- unit 1 at 4 lots alone: the mixes bring 28 lots and not 24
  pub miss : Declined both 1 2 (ledger both 1 2 (calls 6 never_off)) (judge 2) (at_place 44 0)
  -- at 5 cents unit 0 gains 0 with 0 to 10 lots, and the first of these schedules in reading order is on with one lot
  pub supply_at_five : Supply (both.model 0) 1 (day_at 5).prices (pos 0, pos 0, pos 10)
  pub show_at_five : First (both.model 0) 1 (day_at 5).prices (on 1)
  pub draw_ten : drawn 10 ≡ 13
  pub draw_most : drawn 79 ≡ 103
  -- from 20 lots to 25, and not to 26
  pub to_25 : ScheduleOf (ramping.model 0) (pos 25 ∷ [])
  pub not_to_26 : ScheduleOf (ramping.model 0) (pos 26 ∷ []) → ⊥
  -- two rises of 2 do not reach 5
  pub too_empty : Declined filling 2 1 nothing_asked (supply 0 3920 3920) (at_place 32 0)
