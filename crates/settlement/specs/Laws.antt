-- What holds of every ledger, and of the schedule check. Assumes nothing.
use Rattle.std.specs.Prelude.{◌≡◌, ℕ, ◌<◌, ◌≤◌, true, false, List, [], Some, None}
use Rattle.std.specs.List.{AllByRecursion}
use Rattle.terms.specs.declared.entry.Entry.{Entry}
use Rattle.fleet.specs.Units.{Meaning, UnitModel}
use Rattle.fleet.specs.Schedules.{Schedule, Allowed, FirstBad}
use Rattle.fleet.specs.Rows.{SoundPrices}
use Rattle.settlement.specs.Ledger.{Ledger, Call, is_priced, weighs, bad_at, ledger}

-- runs and mixes are allowed schedules of the fleet's units; no unit's mixes weigh more than W, and none without a run;
-- before priced there are neither; at priced the prices keep their bounds
pub record Kept (m : Meaning) (T W : ℕ) (l : Ledger) : Type 0 where
  pub mixed : AllByRecursion (λ x. (x.unit < m.units) × Schedule (m.model x.unit) T x.schedule × (1 ≤ x.weight)) l.mixes
  pub ran : (u : ℕ) (es : List Entry) → l.runs u ≡ Some es → (u < m.units) × Schedule (m.model u) T es
  pub early : is_priced l.stage ≡ false → ((u : ℕ) → l.runs u ≡ None) × (l.mixes ≡ [])
  pub light : (u : ℕ) → weighs u l.mixes ≤ W
  pub without : (u : ℕ) → l.runs u ≡ None → weighs u l.mixes ≡ 0
  pub sound_prices : is_priced l.stage ≡ true → SoundPrices T l.prices.over l.prices.numerators

-- after every list of calls
abbrev pub LedgerLaw : Type 0
LedgerLaw = (m : Meaning) (T W : ℕ) (cs : List Call) → Kept m T W (ledger m T W cs)

-- nothing is bad exactly where the schedule is allowed, and what is bad first is the first bad period
pub record CheckLaw : Type 0 where
  pub none : (p : UnitModel) (es : List Entry) → bad_at p es ≡ None → Allowed p es
  pub allowed : (p : UnitModel) (es : List Entry) → Allowed p es → bad_at p es ≡ None
  pub bad : (p : UnitModel) (es : List Entry) (k : ℕ) → bad_at p es ≡ Some k → FirstBad p es k
  pub first : (p : UnitModel) (es : List Entry) (k : ℕ) → FirstBad p es k → bad_at p es ≡ Some k
