-- Which calls a ledger takes, and why it holds one back, in the words of the subject. Assumes nothing.
use Rattle.std.specs.Prelude.{◌≡◌, ◌≢◌, ℕ, ◌+◌, ◌<◌, ◌≤◌, ◌⊎◌, ◌↔◌, List, [], ◌∷◌, ◌++◌, length, ℤ, pos, Some, None, slice_index_or}
use Rattle.std.specs.List.{Contains}
use Rattle.terms.specs.Numbers.{Near}
use Rattle.terms.specs.declared.entry.Entry.{Entry}
use Rattle.fleet.specs.Units.{Meaning}
use Rattle.fleet.specs.Schedules.{Schedule, FirstBad}
use Rattle.fleet.specs.Rows.{Fault, Bounded, SoundPrices}
use Rattle.settlement.specs.Ledger.{Ledger, blank, needed, priced, Call, need, price, run, mix, supply, show, judge, weighs, Mix, held_back, ledger}
use Rattle.settlement.specs.Evidence.{Ran}
use Rattle.settlement.specs.Reasons.{FirstNot, here, reason, nothing, wrong, Declined}

-- what holds a row back that is not T numbers within ±b; where nothing does, what comes after
abbrev pub row_held_by : ℕ → ℕ → List ℤ → (Fault → Type 0) → Fault → Type 0
row_held_by T b xs after =
    reason 22 (here 0 (length xs ≢ T))
    (reason 23 (FirstNot T (λ t. Near b (slice_index_or xs t (pos 0)))) after)

module _ (m : Meaning) (T W : ℕ) where
  -- the stage takes the call, and what it brings keeps the rules
  abbrev pub Fits : Ledger → Call → Type 0
  Fits l (need xs) = (l.stage ≡ blank) × Bounded T 32000 xs
  Fits l (price d ns) = (l.stage ≡ needed) × SoundPrices T d ns
  Fits l (run u es slots) = (l.stage ≡ priced) × (u < m.units) × (l.runs u ≡ None) × Schedule (m.model u) T es × (3920 ≤ slots)
  Fits l (mix u w es) = (l.stage ≡ priced) × (u < m.units) × Schedule (m.model u) T es × Ran l u × (1 ≤ w) × (w + weighs u l.mixes ≤ W)
  Fits l (supply u fewer more) = (l.stage ≡ priced) × (u < m.units) × (3920 ≤ fewer) × (3920 ≤ more)
  Fits l (show u slots room) = (l.stage ≡ priced) × (u < m.units) × (3920 ≤ slots) × (T ≤ room)
  Fits l (judge room) = (l.stage ≡ priced) × (m.units ≤ room)

  -- what holds a call back, in rising number; where nothing does, what comes after
  abbrev pub held_by : Ledger → Call → (Fault → Type 0) → Fault → Type 0
  held_by l (need xs) after =
      reason 21 (here 0 (l.stage ≢ blank))
      (row_held_by T 32000 xs after)
  held_by l (price d ns) after =
      reason 21 (here 0 (l.stage ≢ needed))
      (row_held_by T 1000000000 ns
      (reason 23 (here T ((d < 1) ⊎ (1000 < d))) after))
  held_by l (run u es slots) after =
      reason 21 (here u (l.stage ≢ priced))
      (reason 24 (here u (m.units ≤ u))
      (reason 25 (here u (Ran l u))
      (reason 26 (here u (length es ≢ T))
      (reason 27 (FirstBad (m.model u) es)
      (reason 30 (here u (slots < 3920)) after)))))
  held_by l (mix u w es) after =
      reason 21 (here u (l.stage ≢ priced))
      (reason 24 (here u (m.units ≤ u))
      (reason 26 (here u (length es ≢ T))
      (reason 27 (FirstBad (m.model u) es)
      (reason 28 (here u (l.runs u ≡ None))
      (reason 29 (here u ((w < 1) ⊎ (W < w + weighs u l.mixes))) after)))))
  held_by l (supply u fewer more) after =
      reason 21 (here u (l.stage ≢ priced))
      (reason 24 (here u (m.units ≤ u))
      (reason 30 (here u ((fewer < 3920) ⊎ (more < 3920))) after))
  held_by l (show u slots room) after =
      reason 21 (here u (l.stage ≢ priced))
      (reason 24 (here u (m.units ≤ u))
      (reason 30 (here u ((slots < 3920) ⊎ (room < T))) after))
  held_by l (judge room) after =
      reason 21 (here 0 (l.stage ≢ priced))
      (reason 30 (here 0 (room < m.units)) after)

-- nothing holds a call back exactly where it fits
abbrev pub FitsLaw : Type 0
FitsLaw = (m : Meaning) (T W : ℕ) (l : Ledger) (c : Call) → (held_back m T W l c ≡ None) ↔ Fits m T W l c

-- else the first reason that applies does, with its number and place
abbrev pub HeldLaw : Type 0
HeldLaw = (m : Meaning) (T W : ℕ) (l : Ledger) (c : Call) (f : Fault) → (held_back m T W l c ≡ Some f) ↔ held_by m T W l c nothing f

-- all that a call is declined with, in rising number
abbrev pub DeclinedLaw : Type 0
DeclinedLaw = (m : Meaning) (T W : ℕ) (l : Ledger) (c : Call) (f : Fault) → Declined m T W l c f ↔ held_by m T W l c (wrong m T W l c) f

-- each unit's run is as it was
abbrev pub SameRuns : Ledger → Ledger → Type 0
SameRuns l k = (u : ℕ) → k.runs u ≡ l.runs u

-- the call, entered on the first ledger, leaves the second; a mix counts as often as it is entered
abbrev pub Leaves : Ledger → Call → Ledger → Type 0
Leaves l (need xs) k = (k.stage ≡ needed) × (k.needs ≡ xs) × (k.prices ≡ l.prices) × SameRuns l k × (k.mixes ≡ l.mixes)
Leaves l (price d ns) k = (k.stage ≡ priced) × (k.needs ≡ l.needs) × (k.prices ≡ record { over = d; numerators = ns }) × SameRuns l k × (k.mixes ≡ l.mixes)
Leaves l (run u es slots) k = (k.stage ≡ l.stage) × (k.needs ≡ l.needs) × (k.prices ≡ l.prices) × (k.runs u ≡ Some es) × ((v : ℕ) → v ≢ u → k.runs v ≡ l.runs v) × (k.mixes ≡ l.mixes)
Leaves l (mix u w es) k = (k.stage ≡ l.stage) × (k.needs ≡ l.needs) × (k.prices ≡ l.prices) × SameRuns l k × (k.mixes ≡ l.mixes ++ (record { unit = u; weight = w; schedule = es } ∷ []))
Leaves l (supply u fewer more) k = k ≡ l
Leaves l (show u slots room) k = k ≡ l
Leaves l (judge room) k = k ≡ l

-- a call that fits is entered, and one that does not leaves the ledger as it was
pub record EntersLaw : Type 0 where
  pub fits : (m : Meaning) (T W : ℕ) (cs : List Call) (c : Call) → Fits m T W (ledger m T W cs) c → Leaves (ledger m T W cs) c (ledger m T W (cs ++ (c ∷ [])))
  pub others : (m : Meaning) (T W : ℕ) (cs : List Call) (c : Call) → (Fits m T W (ledger m T W cs) c → ⊥) → ledger m T W (cs ++ (c ∷ [])) ≡ ledger m T W cs

-- the calls have this one, and it fits the ledger of those before it
abbrev pub Taken : Meaning → ℕ → ℕ → List Call → Call → Type 0
Taken m T W cs c = (before : List Call) × (after : List Call) × (cs ≡ before ++ (c ∷ after)) × Fits m T W (ledger m T W before) c

-- the ledger holds what was taken, and only that
pub record HoldsTaken (m : Meaning) (T W : ℕ) (cs : List Call) (l : Ledger) : Type 0 where
  pub needs : (xs : List ℤ) → ((l.stage ≢ blank) × (l.needs ≡ xs)) ↔ Taken m T W cs (need xs)
  pub prices : (d : ℕ) (ns : List ℤ) → ((l.stage ≡ priced) × (l.prices ≡ record { over = d; numerators = ns })) ↔ Taken m T W cs (price d ns)
  pub runs : (u : ℕ) (es : List Entry) → (l.runs u ≡ Some es) ↔ ((slots : ℕ) × Taken m T W cs (run u es slots))
  pub mixes : (x : Mix) → Contains l.mixes x ↔ Taken m T W cs (mix x.unit x.weight x.schedule)

-- so whatever the calls are a need row, a price row and a unit's run stand for good
abbrev pub TakenLaw : Type 0
TakenLaw = (m : Meaning) (T W : ℕ) (cs : List Call) → HoldsTaken m T W cs (ledger m T W cs)
