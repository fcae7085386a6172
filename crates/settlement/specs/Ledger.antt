-- The plain ledger: what a list of calls enters, with no answer in it. Assumes nothing.
use Rattle.std.specs.Prelude.{ℕ, ◌+◌, ◌-◌, Bool, true, false, cond, not, ◌&&◌, List, [], ◌∷◌, ◌++◌, length, ℤ, Some, None, fold, sum_by, Option, ◌==◌, nat_le, nat_lt}
use Rattle.terms.specs.declared.entry.Entry.{Entry}
use Rattle.fleet.specs.Units.{Meaning, UnitModel, holds}
use Rattle.fleet.specs.Schedules.{Prices}
use Rattle.fleet.specs.Rows.{Fault, need_fault, price_fault}

pub data Stage : Type 0 where
  blank : Stage
  needed : Stage
  priced : Stage

abbrev pub is_blank : Stage → Bool
is_blank blank = true
is_blank needed = false
is_blank priced = false

abbrev pub is_needed : Stage → Bool
is_needed blank = false
is_needed needed = true
is_needed priced = false

abbrev pub is_priced : Stage → Bool
is_priced blank = false
is_priced needed = false
is_priced priced = true

-- a call with its arguments; the lengths of what it lends, tables and buffers, come last
pub data Call : Type 0 where
  -- the wanted lots
  need : List ℤ → Call
  -- denominator and numerators
  price : ℕ → List ℤ → Call
  -- unit and schedule; the table's slots
  run : ℕ → List Entry → ℕ → Call
  -- unit, weight and schedule
  mix : ℕ → ℕ → List Entry → Call
  -- unit; the slots of each table
  supply : ℕ → ℕ → ℕ → Call
  -- unit; the table's slots and the buffer's entries
  show : ℕ → ℕ → ℕ → Call
  -- the numbers of the pay buffer
  judge : ℕ → Call

pub record Mix : Type 0 where
  pub unit : ℕ
  pub weight : ℕ
  pub schedule : List Entry

pub record Ledger : Type 0 where
  pub stage : Stage
  pub needs : List ℤ
  pub prices : Prices
  pub runs : ℕ → Option (List Entry)
  pub mixes : List Mix

abbrev pub fresh : Ledger
fresh = record { stage = blank; needs = []; prices = record { over = 0; numerators = [] }; runs = λ _. None; mixes = [] }

abbrev pub has : {X : Type 0} → Option X → Bool
has None = false
has (Some x) = true

-- the weights of a unit's mixes
abbrev pub weighs : ℕ → List Mix → ℕ
weighs u xs = sum_by (λ x. cond (x.unit == u) x.weight 0) xs

-- the first period whose entry has no arc that contains its output, or the end, where only that fails
abbrev pub bad_from : UnitModel → ℕ → ℕ → List Entry → Option ℕ
bad_from p t a [] = cond (p.ends a) None (Some t)
bad_from p t a (e ∷ es) = cond (holds (p.arc t a e.state) e.output) (bad_from p (t + 1) e.state es) (Some t)

abbrev pub bad_at : UnitModel → List Entry → Option ℕ
bad_at p es = bad_from p 0 p.start es

-- a check, the number and place of its decline, and the checks after it
abbrev pub check : Bool → ℕ → ℕ → Option Fault → Option Fault
check ok number place after = cond ok after (Some (record { number = number; place = place }))

-- the schedule check
abbrev pub allow : Option ℕ → Option Fault → Option Fault
allow None after = after
allow (Some t) after = Some (record { number = 27; place = t })

module _ (m : Meaning) (T W : ℕ) where
  -- what holds a call back from the ledger, in rising number
  abbrev pub held_back : Ledger → Call → Option Fault
  held_back l (need xs) = check (is_blank l.stage) 21 0 (need_fault T xs)
  held_back l (price d ns) = check (is_needed l.stage) 21 0 (price_fault T d ns)
  held_back l (run u es slots) =
      check (is_priced l.stage) 21 u
      (check (nat_lt u m.units) 24 u
      (check (not (has (l.runs u))) 25 u
      (check (length es == T) 26 u
      (allow (bad_at (m.model u) es)
      (check (nat_le 3920 slots) 30 u None)))))
  held_back l (mix u w es) =
      check (is_priced l.stage) 21 u
      (check (nat_lt u m.units) 24 u
      (check (length es == T) 26 u
      (allow (bad_at (m.model u) es)
      (check (has (l.runs u)) 28 u
      (check (nat_le 1 w && nat_le w (W - weighs u l.mixes)) 29 u None)))))
  held_back l (supply u fewer more) =
      check (is_priced l.stage) 21 u
      (check (nat_lt u m.units) 24 u
      (check (nat_le 3920 fewer && nat_le 3920 more) 30 u None))
  held_back l (show u slots room) =
      check (is_priced l.stage) 21 u
      (check (nat_lt u m.units) 24 u
      (check (nat_le 3920 slots && nat_le T room) 30 u None))
  held_back l (judge room) =
      check (is_priced l.stage) 21 0
      (check (nat_le m.units room) 30 0 None)

  -- the ledger with the call on it
  abbrev pub entered : Ledger → Call → Ledger
  entered l (need xs) = record { stage = needed; needs = xs; prices = l.prices; runs = l.runs; mixes = l.mixes }
  entered l (price d ns) = record { stage = priced; needs = l.needs; prices = record { over = d; numerators = ns }; runs = l.runs; mixes = l.mixes }
  entered l (run u es slots) = record { stage = l.stage; needs = l.needs; prices = l.prices; runs = λ i. cond (u == i) (Some es) (l.runs i); mixes = l.mixes }
  entered l (mix u w es) = record { stage = l.stage; needs = l.needs; prices = l.prices; runs = l.runs; mixes = l.mixes ++ (record { unit = u; weight = w; schedule = es } ∷ []) }
  entered l (supply u fewer more) = l
  entered l (show u slots room) = l
  entered l (judge room) = l

  abbrev pub unless : Option Fault → Ledger → Ledger → Ledger
  unless None new old = new
  unless (Some f) new old = old

  -- a call that is held back leaves the ledger as it is
  abbrev pub step : Ledger → Call → Ledger
  step l c = unless (held_back l c) (entered l c) l

  -- what a list of calls leaves, the first call first
  abbrev pub ledger : List Call → Ledger
  ledger cs = fold step fresh cs
