-- What judge answers after any list of calls, and what that says of every price row. Assumes nothing.
use Rattle.std.specs.Prelude.{◌≡◌, ℕ, ◌<◌, ◌≤◌, true, List, length, get_or, drop, ℤ, pos, ◌-ℤ◌, ◌*ℤ◌, ◌≤ℤ◌, Ok, Err, Result, slice_index_or}
use Rattle.terms.specs.Sums.{sum_to}
use Rattle.terms.specs.declared.decline.Decline.{Decline}
use Rattle.fleet.specs.Units.{Meaning}
use Rattle.fleet.specs.Schedules.{Prices}
use Rattle.fleet.specs.Gains.{BestGain}
use Rattle.fleet.specs.Uplifts.{best, pay_of}
use Rattle.settlement.specs.declared.verdicts.Judgement.{Judgement}
use Rattle.settlement.specs.declared.verdicts.Verdict.{Verdict}
use Rattle.settlement.specs.declared.verdicts.Verdict.TheVariants.{Least, Within}
use Rattle.settlement.specs.Ledger.{Ledger, judge, is_priced}
use Rattle.settlement.specs.Evidence.{Evidence, AllBest, run_of, uplift_at, gap_at}
use Rattle.settlement.specs.Reasons.{Declined, Answered, KeptAtDecline}

-- against every price row r, whatever its denominator D' and its numerators: with U' the uplift there of the ledger's
-- runs and D the denominator of the ledger's prices, D × W × U' is at least D' × (W × uplift − gap); after LEAST the gap
-- is 0, and no row has less uplift in money
pub record Bound (m : Meaning) (T W : ℕ) (l : Ledger) (j : Judgement) : Type 0 where
  -- at every row every unit has a best gain, so U' is there
  pub bests : (r : Prices) (u : ℕ) → u < m.units → BestGain (m.model u) T r (best (m.model u) T r)
  pub every_row : (r : Prices) → (pos r.over *ℤ (pos W *ℤ j.uplift -ℤ j.gap)) ≤ℤ (pos l.prices.over *ℤ (pos W *ℤ uplift_at m T r l))
  pub no_gap : j.verdict ≡ Least → j.gap ≡ pos 0
  pub least : j.verdict ≡ Least → (r : Prices) → (pos r.over *ℤ j.uplift) ≤ℤ (pos l.prices.over *ℤ uplift_at m T r l)

-- each unit's pay is the most that any allowed schedule gains, less its run's gain, and is not below 0; the pays add up
-- to the uplift; the gap is the sum of weight × (best gain − the mix's gain); past the units the buffer is as it was
pub record Pays (m : Meaning) (T W : ℕ) (l : Ledger) (old new : List ℤ) (j : Judgement) : Type 0 where
  pub most : (u : ℕ) → u < m.units → BestGain (m.model u) T l.prices (best (m.model u) T l.prices)
  pub pay : (u : ℕ) → u < m.units → slice_index_or new u (pos 0) ≡ pay_of (m.model u) T l.prices (run_of l u)
  pub not_below : (u : ℕ) → u < m.units → pos 0 ≤ℤ slice_index_or new u (pos 0)
  pub adds_up : j.uplift ≡ sum_to m.units (λ u. get_or new u (pos 0))
  pub gap : j.gap ≡ gap_at m T l.prices l
  pub over : j.over ≡ l.prices.over
  pub weight : j.weight ≡ W
  pub long : length new ≡ length old
  pub past : drop m.units new ≡ drop m.units old

-- the answer bears this verdict
abbrev pub SaysVerdict : Verdict → Result Judgement Decline → Type 0
SaysVerdict v (Ok j) = j.verdict ≡ v
SaysVerdict v (Err d) = ⊥

-- LEAST exactly with the evidence and every mix at its best; WITHIN exactly where the last alone fails
pub record Exactly (m : Meaning) (T W : ℕ) (l : Ledger) (r : Result Judgement Decline) : Type 0 where
  pub least : SaysVerdict Least r → Evidence m T W l × AllBest m T l
  pub so_least : Evidence m T W l → AllBest m T l → SaysVerdict Least r
  pub within : SaysVerdict Within r → Evidence m T W l × (AllBest m T l → ⊥)
  pub so_within : Evidence m T W l → (AllBest m T l → ⊥) → SaysVerdict Within r

-- where there is a verdict
abbrev pub AtVerdict : (Judgement → Type 0) → Result Judgement Decline → Type 0
AtVerdict Is (Ok j) = Is j
AtVerdict Is (Err d) = Unit {0}

-- judge, with the pay buffer before and after
pub record Judges (m : Meaning) (T W : ℕ) (l : Ledger) (old new : List ℤ) (r : Result Judgement Decline) : Type 0 where
  pub answer : Answered (Declined m T W l (judge (length old))) (λ _. Unit {0}) r
  pub bound : AtVerdict (Bound m T W l) r
  pub pays : AtVerdict (Pays m T W l old new) r
  pub exactly : is_priced l.stage ≡ true → m.units ≤ length old → Exactly m T W l r
  pub kept : KeptAtDecline old new r
