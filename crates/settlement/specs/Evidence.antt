-- What a ledger shows: lots, gap and uplift, and the conditions of the evidence. Assumes nothing.
use Rattle.std.specs.Prelude.{◌≡◌, ℕ, ◌<◌, true, List, [], get_or, ℤ, pos, ◌*ℤ◌, Some, None, Option, slice_index_or}
use Rattle.std.specs.List.{AllByRecursion}
use Rattle.terms.specs.Sums.{sum_to, sum_of}
use Rattle.terms.specs.declared.entry.Entry.{Entry}
use Rattle.fleet.specs.Units.{Meaning}
use Rattle.fleet.specs.Schedules.{Prices, gain_of}
use Rattle.fleet.specs.Gains.{BestGain}
use Rattle.fleet.specs.Uplifts.{pay_of, uplift_of}
use Rattle.settlement.specs.Ledger.{Ledger, has, weighs}

-- the lots of a period, 0 past the end
abbrev pub lots_at : List Entry → ℕ → ℤ
lots_at es t = (get_or es t (record { state = 0; output = pos 0 })).output

abbrev pub schedule_of : Option (List Entry) → List Entry
schedule_of None = []
schedule_of (Some es) = es

-- a unit's run, no entries where it has none
abbrev pub run_of : Ledger → ℕ → List Entry
run_of l u = schedule_of (l.runs u)

-- the lots of all runs in a period
abbrev pub run_lots : Meaning → Ledger → ℕ → ℤ
run_lots m l t = sum_to m.units (λ u. lots_at (run_of l u) t)

-- the lots of all mixes in a period, each by its weight
abbrev pub mix_lots : Ledger → ℕ → ℤ
mix_lots l t = sum_of (λ x. pos x.weight *ℤ lots_at x.schedule t) l.mixes

-- the uplift of the ledger's runs, at any price row
abbrev pub uplift_at : Meaning → ℕ → Prices → Ledger → ℤ
uplift_at m T r l = uplift_of m T r (run_of l)

-- what the ledger's mixes lack of the best gain, each by its weight, at any price row
abbrev pub gap_at : Meaning → ℕ → Prices → Ledger → ℤ
gap_at m T r l = sum_of (λ x. pos x.weight *ℤ pay_of (m.model x.unit) T r x.schedule) l.mixes

-- the evidence --

abbrev pub Ran : Ledger → ℕ → Type 0
Ran l u = has (l.runs u) ≡ true

abbrev pub RunsMeet : Meaning → Ledger → ℕ → Type 0
RunsMeet m l t = run_lots m l t ≡ slice_index_or l.needs t (pos 0)

abbrev pub Whole : ℕ → Ledger → ℕ → Type 0
Whole W l u = weighs u l.mixes ≡ W

abbrev pub MixesMeet : ℕ → Ledger → ℕ → Type 0
MixesMeet W l t = mix_lots l t ≡ pos W *ℤ slice_index_or l.needs t (pos 0)

-- every unit has a run, runs add up to every need, each unit's mixes weigh W together, and all mixes by weight add up
-- to W times every need
pub record Evidence (m : Meaning) (T W : ℕ) (l : Ledger) : Type 0 where
  pub ran : (u : ℕ) → u < m.units → Ran l u
  pub runs_meet : (t : ℕ) → t < T → RunsMeet m l t
  pub whole : (u : ℕ) → u < m.units → Whole W l u
  pub mixes_meet : (t : ℕ) → t < T → MixesMeet W l t

-- each mix gains the best of its unit
abbrev pub AllBest : Meaning → ℕ → Ledger → Type 0
AllBest m T l = AllByRecursion (λ x. BestGain (m.model x.unit) T l.prices (gain_of (m.model x.unit) l.prices x.schedule)) l.mixes
