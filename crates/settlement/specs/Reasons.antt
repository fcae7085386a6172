-- Why a call is declined: all numbers, each in its condition and at its place. Assumes nothing.
use Rattle.std.specs.Prelude.{◌≡◌, ℕ, ◌<◌, ◌≤◌, ◌⊎◌, List, ℤ, pos, neg_ℤ, ◌<ℤ◌, Some, None, Ok, Err, Result, ◌≢◌}
use Rattle.terms.specs.Declines.{Says}
use Rattle.terms.specs.declared.decline.Decline.{Decline}
use Rattle.terms.specs.declared.decline.Layer.TheVariants.{Docket}
use Rattle.fleet.specs.Units.{Meaning, Sound}
use Rattle.fleet.specs.Schedules.{NoSchedule, gain_of}
use Rattle.fleet.specs.Rows.{Fault}
use Rattle.fleet.specs.Gains.{Supply}
use Rattle.fleet.specs.Uplifts.{best, pay_of}
use Rattle.settlement.specs.Ledger.{Ledger, Call, need, price, run, mix, supply, show, judge, held_back, ledger}
use Rattle.settlement.specs.Evidence.{run_of, gap_at, uplift_at, Ran, RunsMeet, Whole, MixesMeet}

-- k is the first number below n at which P fails
pub record FirstNot (n : ℕ) (P : ℕ → Type 0) (k : ℕ) : Type 0 where
  pub below : k < n
  pub fails : P k → ⊥
  pub before : (i : ℕ) → i < k → P i

-- signed 64 bits do not hold z
abbrev pub Beyond : ℤ → Type 0
Beyond z = (z <ℤ neg_ℤ (pos 9223372036854775808)) ⊎ (pos 9223372036854775807 <ℤ z)

-- a condition that speaks of one place
abbrev pub here : ℕ → Type 0 → ℕ → Type 0
here place A p = (p ≡ place) × A

-- a number where its condition holds at a place; where it holds at none, what comes after
abbrev pub reason : ℕ → (ℕ → Type 0) → (Fault → Type 0) → Fault → Type 0
reason number At after f = ((f.number ≡ number) × At f.place) ⊎ (((p : ℕ) → At p → ⊥) × after f)

abbrev pub nothing : Fault → Type 0
nothing f = ⊥

module _ (m : Meaning) (T W : ℕ) where
  -- the numbers of supply
  abbrev pub SupplyBeyond : Ledger → ℕ → Type 0
  SupplyBeyond l u = (s : ℤ × ℤ × ℤ) × Supply (m.model u) T l.prices s × (Beyond s.0 ⊎ (Beyond s.1 ⊎ Beyond s.2))

  -- the pays of units that have a run, the gap over the mixes, and the uplift where all have a run
  abbrev pub JudgeBeyond : Ledger → Type 0
  JudgeBeyond l =
      ((u : ℕ) × (u < m.units) × Ran l u × Beyond (pay_of (m.model u) T l.prices (run_of l u)))
      ⊎ (Beyond (gap_at m T l.prices l)
      ⊎ (((u : ℕ) → u < m.units → Ran l u) × Beyond (uplift_at m T l.prices l)))

  -- what can be wrong with a call that nothing holds back, in rising number
  abbrev pub wrong : Ledger → Call → Fault → Type 0
  wrong l (need xs) = nothing
  wrong l (price d ns) = nothing
  -- no 32 at run: an allowed schedule was just given
  wrong l (run u es slots) =
      reason 31 (here u (Beyond (gain_of (m.model u) l.prices es) ⊎ Beyond (best (m.model u) T l.prices))) nothing
  wrong l (mix u w es) = nothing
  wrong l (supply u fewer more) =
      reason 31 (here u (SupplyBeyond l u))
      (reason 32 (here u (NoSchedule (m.model u) T)) nothing)
  wrong l (show u slots room) =
      reason 31 (here u (Beyond (best (m.model u) T l.prices)))
      (reason 32 (here u (NoSchedule (m.model u) T)) nothing)
  wrong l (judge room) =
      reason 31 (here 0 (JudgeBeyond l))
      (reason 41 (FirstNot m.units (Ran l))
      (reason 42 (FirstNot T (RunsMeet m l))
      (reason 43 (FirstNot m.units (Whole W l))
      (reason 44 (FirstNot T (MixesMeet W l)) nothing))))

  -- what a call is declined with: what holds it back, or else what is wrong
  abbrev pub Declined : Ledger → Call → Fault → Type 0
  Declined l c f = (held_back m T W l c ≡ Some f) ⊎ ((held_back m T W l c ≡ None) × wrong l c f)

-- declined exactly where there is a fault, with its number and place; else an answer that is so
abbrev pub Answered : {X : Type 0} → (Fault → Type 0) → (X → Type 0) → Result X Decline → Type 0
Answered Faulty Is (Ok x) = ((f : Fault) → Faulty f → ⊥) × Is x
Answered Faulty Is (Err d) = (f : Fault) × Faulty f × Says Docket f.number f.place d

-- at a decline all is as it was
abbrev pub KeptAtDecline : {X Y : Type 0} → X → X → Result Y Decline → Type 0
KeptAtDecline old new (Ok y) = Unit {0}
KeptAtDecline old new (Err d) = new ≡ old

-- a call is declined with one number and place
abbrev pub OneFaultLaw : Type 0
OneFaultLaw = (m : Meaning) (T W : ℕ) (l : Ledger) (c : Call) (f g : Fault) → Declined m T W l c f → Declined m T W l c g → f ≡ g

-- no list of calls leads to a 31
abbrev pub Never31Law : Type 0
Never31Law = (m : Meaning) → Sound m → (T W : ℕ) → W ≤ 1000 → (cs : List Call) (c : Call) (f : Fault) → Declined m T W (ledger m T W cs) c f → f.number ≢ 31
