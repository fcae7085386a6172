-- The rule of ramp units, on outputs and on the states that these give. Assumes nothing.
use Rattle.std.specs.Prelude.{◌≡◌, ℕ, zero, suc, ◌+◌, ◌-◌, ◌*◌, ◌<◌, cond, List, ◌∷◌, length, ℤ, pos, ◌+ℤ◌, ◌-ℤ◌, ◌≤ℤ◌, slice_index_or, unsigned_abs}
use Rattle.terms.specs.Sums.{sum_to}
use Rattle.reader.specs.declared.numbers.RampNumbers.{RampNumbers}
use Rattle.units.specs.Fill.{fill}
use Rattle.units.specs.Links.{model_of}
use Rattle.units.specs.RampUnits.{ramp_links}
use Rattle.units.specs.SteamRules.{runs}
use Rattle.units.specs.Agree.{OfKind, SameStates}

-- 1 where it is on, 0 where it is off
abbrev pub commitment : ℤ → ℕ
commitment q = cond (runs q) 1 0

-- the inequalities between an output p, committed x, and the next, q, committed y
pub record RampedBy (n : RampNumbers) (p q : ℤ) (x y : ℕ) : Type 0 where
  pub low : pos (n.run.lo * y) ≤ℤ q
  pub high : q ≤ℤ pos (n.run.hi * y)
  pub rises : (q -ℤ p) ≤ℤ pos (n.rate.step * x + n.rate.edge * (1 - x))
  pub falls : (p -ℤ q) ≤ℤ pos (n.rate.step * y + n.rate.edge * (1 - y))

abbrev pub Ramped : RampNumbers → ℤ → ℤ → Type 0
Ramped n p q = RampedBy n p q (commitment p) (commitment q)

-- the output before period t, that before the day included
abbrev pub previous : RampNumbers → List ℤ → ℕ → ℤ
previous n qs t = slice_index_or (pos n.was ∷ qs) t (pos 0)

-- a day's outputs obey the rule of ramp units
abbrev pub RampObeys : RampNumbers → List ℤ → Type 0
RampObeys n qs = (t : ℕ) → t < length qs → Ramped n (previous n qs t) (slice_index_or qs t (pos 0))

-- a period on costs its idle amount and its lots, and a start the start besides
abbrev pub ramp_period : RampNumbers → ℤ → ℤ → ℤ
ramp_period n p q = cond (runs q) (pos (n.idle + cond (runs p) 0 n.start) +ℤ fill n.steps.places (unsigned_abs q)) (pos 0)

abbrev pub ramp_cost : RampNumbers → List ℤ → ℤ
ramp_cost n qs = sum_to (length qs) (λ t. ramp_period n (previous n qs t) (slice_index_or qs t (pos 0)))

-- off is state 0, and output LO + j is state j + 1
abbrev pub StateOf : RampNumbers → ℤ → ℕ → Type 0
StateOf n q zero = q ≡ pos 0
StateOf n q (suc j) = q ≡ pos (n.run.lo + j)

-- the state is that of the output before
abbrev pub RampIn : RampNumbers → List ℤ → ℕ → ℕ → Type 0
RampIn n qs t a = StateOf n (previous n qs t) a

abbrev pub RampRule : RampNumbers → Type 0
RampRule n =
    OfKind (model_of (ramp_links n)) (n.run.hi - n.run.lo + 2) (RampObeys n) (RampObeys n) (RampIn n) (ramp_cost n)
    × ((a : ℕ) → SameStates (model_of (ramp_links n)) (model_of (ramp_links (record n { was = a }))))
