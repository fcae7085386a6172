-- What the search's work table holds on the way: the best to go from each state of each period. Assumes nothing.
use Rattle.std.specs.Prelude.{◌≡◌, ℕ, ◌+◌, ◌*◌, ◌<◌, ◌≤◌, true, cond, List, [], ◌∷◌, length, ℤ, ◌<ℤ◌, Some, None, Option, slice_index_or}
use Rattle.terms.specs.declared.entry.Entry.{Entry}
use Rattle.fleet.specs.declared.records.Range.{Range}
use Rattle.fleet.specs.Units.{UnitModel, holds}
use Rattle.fleet.specs.Schedules.{Prices, AllowedFrom, Precedes}
use Rattle.fleet.specs.Gains.{entry_gain}
use Rattle.fleet.specs.Scores.{Scale}

-- o is the best of the scores that are had, and none where there is none
abbrev pub Best : {S : Type 0} → Scale S → (S → Type 0) → Option S → Type 0
Best {S} s Had None = (x : S) → Had x → ⊥
Best {S} s Had (Some b) = Had b × ((x : S) → Had x → s.at_most x b ≡ true)

-- the better of what is had so far and one more score
abbrev pub better_of : {S : Type 0} → Scale S → Option S → S → Option S
better_of s None x = Some x
better_of s (Some b) x = cond (s.at_most x b) (Some b) (Some x)

-- the score of one entry
abbrev pub worth : {S : Type 0} → Scale S → UnitModel → Prices → ℕ → ℕ → ℕ → ℤ → S
worth s p r t a b q = s.of (entry_gain p r t a b q) q

-- the score of entries from state a at period t
abbrev pub score_from : {S : Type 0} → Scale S → UnitModel → Prices → ℕ → ℕ → List Entry → S
score_from s p r t a [] = s.zero
score_from s p r t a (e ∷ es) = s.add (worth s p r t a e.state e.output) (score_from s p r (t + 1) e.state es)

-- x is the score of an allowed way from state a at period t to the end of T periods
pub record ToGo {S : Type 0} (s : Scale S) (p : UnitModel) (r : Prices) (T t a : ℕ) (x : S) : Type 0 where
  pub way : List Entry
  pub long : t + length way ≡ T
  pub allowed : AllowedFrom p t a way
  pub score : score_from s p r t a way ≡ x

-- x is what one of the arc's outputs adds to the rest
abbrev pub Added : {S : Type 0} → Scale S → UnitModel → Prices → ℕ → ℕ → ℕ → Option Range → S → S → Type 0
Added s p r t a b o rest x = (q : ℤ) × (holds o q ≡ true) × (x ≡ s.add (worth s p r t a b q) rest)

-- x is the score of an allowed way from state a at period t, into state b by output q
pub record Through {S : Type 0} (s : Scale S) (p : UnitModel) (r : Prices) (T t a b : ℕ) (q : ℤ) (x : S) : Type 0 where
  pub goes : holds (p.arc t a b) q ≡ true
  pub rest : S
  pub togo : ToGo s p r T (t + 1) b rest
  pub sums : x ≡ s.add (worth s p r t a b q) rest

-- the same, by any output
abbrev pub Via : {S : Type 0} → Scale S → UnitModel → Prices → ℕ → ℕ → ℕ → ℕ → S → Type 0
Via s p r T t a b x = (q : ℤ) × Through s p r T t a b q x

-- one slot for each state, which holds the best to go from there at period t
pub record BestSlots {S : Type 0} (s : Scale S) (p : UnitModel) (r : Prices) (T t : ℕ) (slots : List (Option S)) : Type 0 where
  pub long : length slots ≡ p.states
  pub each : (a : ℕ) → a < p.states → Best s (ToGo s p r T t a) (slice_index_or slots a None)

-- in a table of 80 slots a period, those of period t and later hold it
abbrev pub BestTable : {S : Type 0} → Scale S → UnitModel → Prices → ℕ → ℕ → List (Option S) → Type 0
BestTable s p r T t table = (u a : ℕ) → t ≤ u → u ≤ T → a < p.states → Best s (ToGo s p r T u a) (slice_index_or table (u * 80 + a) None)

-- an entry that attains x, the first in reading order
pub record Step {S : Type 0} (s : Scale S) (p : UnitModel) (r : Prices) (T t a : ℕ) (x : S) (e : Entry) : Type 0 where
  pub attains : Through s p r T t a e.state e.output x
  pub lower_state : (b : ℕ) (q : ℤ) → b < e.state → Through s p r T t a b q x → ⊥
  pub lower_output : (q : ℤ) → q <ℤ e.output → Through s p r T t a e.state q x → ⊥

-- of the ways that score x, the first in reading order
pub record FirstWay {S : Type 0} (s : Scale S) (p : UnitModel) (r : Prices) (T t a : ℕ) (x : S) (es : List Entry) : Type 0 where
  pub long : t + length es ≡ T
  pub allowed : AllowedFrom p t a es
  pub score : score_from s p r t a es ≡ x
  pub earliest : (ys : List Entry) → t + length ys ≡ T → AllowedFrom p t a ys → score_from s p r t a ys ≡ x → Precedes ys es → ⊥
