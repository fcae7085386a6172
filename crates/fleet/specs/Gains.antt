-- The best gain, supply and the first best schedule: relations over all allowed schedules. Assumes nothing.
use Rattle.std.specs.Prelude.{◌≡◌, ℕ, zero, suc, ◌+◌, Bool, true, false, cond, List, ℤ, pos, ◌+ℤ◌, ◌-ℤ◌, ◌*ℤ◌, ◌≤ℤ◌, Some, None, Option}
use Rattle.std.specs.Int.{int_max}
use Rattle.terms.specs.declared.entry.Entry.{Entry}
use Rattle.fleet.specs.Units.{UnitModel, SoundUnit, holds}
use Rattle.fleet.specs.Schedules.{Prices, Schedule, NoSchedule, Precedes, gain_of, lots_of, numerator_at}

-- an allowed schedule of T periods that gains g
pub record Gains (p : UnitModel) (T : ℕ) (r : Prices) (g : ℤ) (es : List Entry) : Type 0 where
  pub scheduled : Schedule p T es
  pub gains : gain_of p r es ≡ g

-- some allowed schedule gains g, and none gains more
pub record BestGain (p : UnitModel) (T : ℕ) (r : Prices) (g : ℤ) : Type 0 where
  pub by : List Entry
  pub attained : Gains p T r g by
  pub most : (es : List Entry) → Schedule p T es → gain_of p r es ≤ℤ g

-- the best gain, or none where no schedule is allowed
abbrev pub IsBest : UnitModel → ℕ → Prices → Option ℤ → Type 0
IsBest p T r None = NoSchedule p T
IsBest p T r (Some g) = BestGain p T r g

-- the best gain as a function --

abbrev pub greater : Option ℤ → Option ℤ → Option ℤ
greater None y = y
greater (Some x) None = Some x
greater (Some x) (Some y) = Some (int_max x y)

-- the greatest of f 0 .. f (n - 1), none where all are none
unfoldable pub greatest : ℕ → (ℕ → Option ℤ) → Option ℤ
greatest zero f = None
greatest (suc n) f = greater (greatest n f) (f n)

-- what one entry gains: numerator × output less denominator × cost
abbrev pub entry_gain : UnitModel → Prices → ℕ → ℕ → ℕ → ℤ → ℤ
entry_gain p r t a b q = (numerator_at r t *ℤ q) -ℤ (pos r.over *ℤ p.cost t a b q)

-- g and what follows, where the step may be taken
abbrev pub onward : Bool → ℤ → Option ℤ → Option ℤ
onward false g rest = None
onward true g None = None
onward true g (Some x) = Some (g +ℤ x)

-- no arc has another output than these: -500 for 0 to 500 for 1,000
abbrev pub output_at : ℕ → ℤ
output_at k = pos k -ℤ pos 500

-- the best gain of k periods from state a at period t
unfoldable pub best_from : UnitModel → Prices → ℕ → ℕ → ℕ → Option ℤ
best_from p r zero t a = cond (p.ends a) (Some (pos 0)) None
best_from p r (suc k) t a = greatest p.states (λ b. greatest 1001 (λ i. onward (holds (p.arc t a b) (output_at i)) (entry_gain p r t a b (output_at i)) (best_from p r k (t + 1) b)))

abbrev pub best_gain : UnitModel → ℕ → Prices → Option ℤ
best_gain p T r = best_from p r T 0 p.start

-- it is the best gain of every unit that keeps the bounds, over any number of periods and at every row of whole numbers
abbrev pub BestGainLaw : Type 0
BestGainLaw = (p : UnitModel) → SoundUnit p → (T : ℕ) (r : Prices) → IsBest p T r (best_gain p T r)

-- supply and the first best schedule --

-- the best gain, with the least and the greatest lots among the schedules of that gain
pub record Supply (p : UnitModel) (T : ℕ) (r : Prices) (s : ℤ × ℤ × ℤ) : Type 0 where
  pub best : BestGain p T r s.0
  pub few : List Entry
  pub few_gains : Gains p T r s.0 few
  pub few_lots : lots_of few ≡ s.1
  pub many : List Entry
  pub many_gains : Gains p T r s.0 many
  pub many_lots : lots_of many ≡ s.2
  pub between : (es : List Entry) → Gains p T r s.0 es → (s.1 ≤ℤ lots_of es) × (lots_of es ≤ℤ s.2)

abbrev pub SupplyLaw : Type 0
SupplyLaw = (p : UnitModel) (T : ℕ) (r : Prices) (x y : ℤ × ℤ × ℤ) → Supply p T r x → Supply p T r y → x ≡ y

-- of the schedules of the best gain, the first in reading order
pub record First (p : UnitModel) (T : ℕ) (r : Prices) (es : List Entry) : Type 0 where
  pub gain : ℤ
  pub best : BestGain p T r gain
  pub gains : Gains p T r gain es
  pub earliest : (ys : List Entry) → Gains p T r gain ys → Precedes ys es → ⊥

abbrev pub FirstLaw : Type 0
FirstLaw = (p : UnitModel) (T : ℕ) (r : Prices) (xs ys : List Entry) → First p T r xs → First p T r ys → xs ≡ ys
