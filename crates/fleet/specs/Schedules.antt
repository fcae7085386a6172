-- Schedules: which are allowed, what they cost and what they gain. Assumes nothing.
use Rattle.std.specs.Prelude.{◌≡◌, ℕ, ◌+◌, ◌<◌, true, false, ◌⊎◌, List, [], ◌∷◌, length, ℤ, pos, ◌+ℤ◌, ◌-ℤ◌, ◌*ℤ◌, ◌<ℤ◌, slice_index_or}
use Rattle.terms.specs.declared.entry.Entry.{Entry}
use Rattle.fleet.specs.Units.{UnitModel, holds}

-- a price row of any whole numbers: the price of period t is its numerator over the denominator
pub record Prices : Type 0 where
  pub over : ℕ
  pub numerators : List ℤ

abbrev pub numerator_at : Prices → ℕ → ℤ
numerator_at r t = slice_index_or r.numerators t (pos 0)

-- an entry at period t from state a: there is an arc into its state that contains its output
abbrev pub Goes : UnitModel → ℕ → ℕ → Entry → Type 0
Goes p t a e = holds (p.arc t a e.state) e.output ≡ true

-- the entries lead from state a at period t to a state in which the day may end
abbrev pub AllowedFrom : UnitModel → ℕ → ℕ → List Entry → Type 0
AllowedFrom p t a [] = p.ends a ≡ true
AllowedFrom p t a (e ∷ es) = Goes p t a e × AllowedFrom p (t + 1) e.state es

abbrev pub cost_from : UnitModel → ℕ → ℕ → List Entry → ℤ
cost_from p t a [] = pos 0
cost_from p t a (e ∷ es) = p.cost t a e.state e.output +ℤ cost_from p (t + 1) e.state es

-- the sum of numerator × output
abbrev pub revenue_from : Prices → ℕ → List Entry → ℤ
revenue_from r t [] = pos 0
revenue_from r t (e ∷ es) = (numerator_at r t *ℤ e.output) +ℤ revenue_from r (t + 1) es

-- revenue less denominator × cost
abbrev pub gain_from : UnitModel → Prices → ℕ → ℕ → List Entry → ℤ
gain_from p r t a es = revenue_from r t es -ℤ (pos r.over *ℤ cost_from p t a es)

abbrev pub lots_of : List Entry → ℤ
lots_of [] = pos 0
lots_of (e ∷ es) = e.output +ℤ lots_of es

-- of a whole day, from the start state
abbrev pub Allowed : UnitModel → List Entry → Type 0
Allowed p es = AllowedFrom p 0 p.start es

abbrev pub cost_of : UnitModel → List Entry → ℤ
cost_of p es = cost_from p 0 p.start es

-- in D-ths of a cent
abbrev pub gain_of : UnitModel → Prices → List Entry → ℤ
gain_of p r es = gain_from p r 0 p.start es

-- an allowed schedule of T periods
pub record Schedule (p : UnitModel) (T : ℕ) (es : List Entry) : Type 0 where
  pub long : length es ≡ T
  pub allowed : Allowed p es

abbrev pub NoSchedule : UnitModel → ℕ → Type 0
NoSchedule p T = (es : List Entry) → Schedule p T es → ⊥

-- k is the first period whose entry has no arc that contains its output, or the end, where only that fails
abbrev pub FirstBadFrom : UnitModel → ℕ → ℕ → List Entry → ℕ → Type 0
FirstBadFrom p t a [] k = (p.ends a ≡ false) × (k ≡ t)
FirstBadFrom p t a (e ∷ es) k = ((Goes p t a e → ⊥) × (k ≡ t)) ⊎ (Goes p t a e × FirstBadFrom p (t + 1) e.state es k)

abbrev pub FirstBad : UnitModel → List Entry → ℕ → Type 0
FirstBad p es k = FirstBadFrom p 0 p.start es k

-- reading order: at the first differing entry the lower state, then the lower output
abbrev pub Precedes : List Entry → List Entry → Type 0
Precedes [] ys = ⊥
Precedes (x ∷ xs) [] = ⊥
Precedes (x ∷ xs) (y ∷ ys) = (x.state < y.state) ⊎ ((x.state ≡ y.state) × ((x.output <ℤ y.output) ⊎ ((x.output ≡ y.output) × Precedes xs ys)))
