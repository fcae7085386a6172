-- What it is that a unit is of a kind: its schedules are those of the kind's rule on outputs. Assumes nothing.
use Rattle.std.specs.Prelude.{◌≡◌, ℕ, zero, suc, ◌<◌, ◌≤◌, List, [], ◌∷◌, length, ℤ, nat_lt}
use Rattle.terms.specs.declared.entry.Entry.{Entry}
use Rattle.fleet.specs.Units.{UnitModel}
use Rattle.fleet.specs.Schedules.{Allowed, cost_of}

-- what a dispatcher sees of a schedule
abbrev pub outputs_of : List Entry → List ℤ
outputs_of [] = []
outputs_of (e ∷ es) = e.output ∷ outputs_of es

-- an allowed schedule with these outputs
pub record ScheduleOf (p : UnitModel) (qs : List ℤ) : Type 0 where
  pub entries : List Entry
  pub allowed : Allowed p entries
  pub outputs : outputs_of entries ≡ qs

-- the state before the schedule's period t, and after its last, where it starts in state a
abbrev pub state_before : ℕ → List Entry → ℕ → ℕ
state_before a es zero = a
state_before a [] (suc t) = a
state_before a (e ∷ es) (suc t) = state_before e.state es t

-- the outputs that obey the rule are exactly those of the allowed schedules, each of one alone, at the rule's cost and
-- in the rule's states: `InState qs t a` says that a is the state before period t by the outputs before it
pub record Agrees (p : UnitModel) (Obeys : List ℤ → Type 0) (InState : List ℤ → ℕ → ℕ → Type 0) (price : List ℤ → ℤ) : Type 0 where
  -- none is missing
  pub found : (qs : List ℤ) → length qs ≤ 48 → Obeys qs → ScheduleOf p qs
  -- none is added
  pub obeys : (es : List Entry) → Allowed p es → Obeys (outputs_of es)
  pub one : (es fs : List Entry) → Allowed p es → Allowed p fs → outputs_of es ≡ outputs_of fs → es ≡ fs
  pub costs : (es : List Entry) → Allowed p es → cost_of p es ≡ price (outputs_of es)
  pub states : (es : List Entry) → Allowed p es → (t : ℕ) → t ≤ length es → InState (outputs_of es) t (state_before p.start es t)

-- the same unit with no regard to how the day ends: it may end in every state
abbrev pub open_ended : UnitModel → UnitModel
open_ended p = record p { ends = λ a. nat_lt a p.states }

-- the unit has so many states; its schedules are those of the rule, and what it may do so far, whatever comes after, is
-- what obeys the rule so far; every period is like the first
pub record OfKind (p : UnitModel) (number : ℕ) (Obeys SoFar : List ℤ → Type 0) (InState : List ℤ → ℕ → ℕ → Type 0) (price : List ℤ → ℤ) : Type 0 where
  pub number_is : p.states ≡ number
  pub schedules : Agrees p Obeys InState price
  pub so_far : Agrees (open_ended p) SoFar InState price
  pub same_arcs : (t a b : ℕ) → t < 48 → p.arc t a b ≡ p.arc 0 a b
  pub same_costs : (t a b : ℕ) (q : ℤ) → t < 48 → p.cost t a b q ≡ p.cost 0 a b q

-- two units alike but for the state in which the day begins: so what was before the day says that state alone, and what
-- the rule says of each state as a beginning it says of every state
pub record SameStates (p q : UnitModel) : Type 0 where
  pub number : q.states ≡ p.states
  pub arcs : (t a b : ℕ) → q.arc t a b ≡ p.arc t a b
  pub costs : (t a b : ℕ) (x : ℤ) → q.cost t a b x ≡ p.cost t a b x
  pub ends : (a : ℕ) → q.ends a ≡ p.ends a
