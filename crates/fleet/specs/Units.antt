-- What a fleet answers, and the bounds and rules that it keeps. Assumes nothing.
use Rattle.std.specs.Prelude.{◌≡◌, ℕ, ◌<◌, ◌≤◌, Bool, false, ◌&&◌, ℤ, pos, ◌≤ℤ◌, Some, None, Option, int_le}
use Rattle.terms.specs.Numbers.{Near}
use Rattle.fleet.specs.declared.records.Range.{Range}

-- all that a fleet answers of one unit
pub record UnitModel : Type 0 where
  pub states : ℕ
  pub start : ℕ
  -- by period, the state before and the state after
  pub arc : ℕ → ℕ → ℕ → Option Range
  -- the same, and the output
  pub cost : ℕ → ℕ → ℕ → ℤ → ℤ
  -- whether the day may end in the state
  pub ends : ℕ → Bool

-- all that a fleet answers
pub record Meaning : Type 0 where
  pub units : ℕ
  pub model : ℕ → UnitModel

-- an arc's outputs
abbrev pub among : Range → ℤ → Bool
among r q = int_le r.lo q && int_le q r.hi

-- there is an arc, and it contains the output
abbrev pub holds : Option Range → ℤ → Bool
holds None q = false
holds (Some r) q = among r q

abbrev pub SoundArc : Option Range → Type 0
SoundArc None = Unit {0}
SoundArc (Some r) = Near 500 r.lo × Near 500 r.hi × (r.lo ≤ℤ r.hi)

pub record SoundUnit (p : UnitModel) : Type 0 where
  pub some_state : 1 ≤ p.states
  pub few_states : p.states ≤ 80
  pub starts : p.start < p.states
  pub arcs : (t a b : ℕ) → SoundArc (p.arc t a b)
  pub no_period : (t a b : ℕ) → 48 ≤ t → p.arc t a b ≡ None
  pub no_from : (t a b : ℕ) → p.states ≤ a → p.arc t a b ≡ None
  pub no_to : (t a b : ℕ) → p.states ≤ b → p.arc t a b ≡ None
  pub costs : (t a b : ℕ) (q : ℤ) → Near 500000000 (p.cost t a b q)
  pub no_cost : (t a b : ℕ) (q : ℤ) → holds (p.arc t a b) q ≡ false → p.cost t a b q ≡ pos 0
  pub no_end : (a : ℕ) → p.states ≤ a → p.ends a ≡ false

-- what is answered of a unit that the fleet lacks
pub record Lacking (p : UnitModel) : Type 0 where
  pub states : p.states ≡ 1
  pub start : p.start ≡ 0
  pub arc : (t a b : ℕ) → p.arc t a b ≡ None
  pub ends : (a : ℕ) → p.ends a ≡ false

pub record Sound (m : Meaning) : Type 0 where
  pub few : m.units ≤ 64
  pub each : (u : ℕ) → SoundUnit (m.model u)
  pub lacking : (u : ℕ) → m.units ≤ u → Lacking (m.model u)
