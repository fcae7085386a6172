-- What the public functions answer, case by case. Assumes nothing.
use Rattle.std.specs.Prelude.{◌≡◌, ℕ, ◌≤◌, ◌⊎◌, List, length, take, drop, ℤ, Ok, Err, Result}
use Rattle.terms.specs.Declines.{Says}
use Rattle.terms.specs.declared.decline.Decline.{Decline}
use Rattle.terms.specs.declared.decline.Layer.TheVariants.{Docket}
use Rattle.terms.specs.declared.entry.Entry.{Entry}
use Rattle.fleet.specs.declared.schedules.Account.{Account}
use Rattle.fleet.specs.declared.rows.PriceRow.{PriceRow}
use Rattle.fleet.specs.Units.{UnitModel, Meaning}
use Rattle.fleet.specs.Schedules.{Prices, Allowed, FirstBad, NoSchedule, cost_of, gain_of}
use Rattle.fleet.specs.Rows.{prices_of, periods_of}
use Rattle.fleet.specs.Gains.{BestGain, Supply, First}

-- the schedule check: cost and gain of what is allowed, else 27 at the first bad period
abbrev pub Checked : UnitModel → Prices → List Entry → Result Account Decline → Type 0
Checked p r es (Ok k) = Allowed p es × (k.cost ≡ cost_of p es) × (k.gain ≡ gain_of p r es)
Checked p r es (Err d) = FirstBad p es d.place × Says Docket 27 d.place d

-- a work table of this many slots is long enough: 80 states at the start of each of 48 periods and at the end
abbrev pub Room : ℕ → Type 0
Room slots = 3920 ≤ slots

-- a search for unit u: 30 without room, else 32 where no schedule is allowed, else the answer
abbrev pub Searched : {X : Type 0} → Type 0 → UnitModel → ℕ → ℕ → (X → Type 0) → Result X Decline → Type 0
Searched room p T u Is (Ok x) = room × Is x
Searched room p T u Is (Err d) = ((room → ⊥) × Says Docket 30 u d) ⊎ (room × NoSchedule p T × Says Docket 32 u d)

-- the buffer past T is as it was, and at a decline all of it
abbrev pub BufferKept : {X : Type 0} → ℕ → List Entry → List Entry → Result X Decline → Type 0
BufferKept T old new (Ok x) = drop T new ≡ drop T old
BufferKept T old new (Err d) = new ≡ old

-- the three searches, at a checked row of the day's prices
abbrev pub BestGainAnswer : Meaning → ℕ → PriceRow → ℕ → Result ℤ Decline → Type 0
BestGainAnswer m u row slots r = Searched (Room slots) (m.model u) (periods_of row) u (BestGain (m.model u) (periods_of row) (prices_of row)) r

abbrev pub SupplyAnswer : Meaning → ℕ → PriceRow → ℕ → ℕ → Result (ℤ × ℤ × ℤ) Decline → Type 0
SupplyAnswer m u row fewer more r = Searched (Room fewer × Room more) (m.model u) (periods_of row) u (Supply (m.model u) (periods_of row) (prices_of row)) r

-- with what is in the buffer before and after
abbrev pub FirstBestAnswer : {X : Type 0} → Meaning → ℕ → PriceRow → ℕ → List Entry → List Entry → Result X Decline → Type 0
FirstBestAnswer m u row slots old new r = Searched (Room slots × ((periods_of row) ≤ length old)) (m.model u) (periods_of row) u (λ _. First (m.model u) (periods_of row) (prices_of row) (take (periods_of row) new)) r × BufferKept (periods_of row) old new r

-- a work table after a search is free: its length is kept and no more is promised, but without room it is untouched
pub record Free {X : Type 0} (room : Type 0) (old new : List X) : Type 0 where
  pub long : length new ≡ length old
  pub untouched : (room → ⊥) → new ≡ old
