-- Checked rows: what they hold, and which are declined. Assumes nothing.
use Rattle.std.specs.Prelude.{◌≡◌, ◌≢◌, ℕ, ◌<◌, ◌≤◌, cond, ◌&&◌, ◌⊎◌, ◌↔◌, List, length, take, ℤ, pos, Some, None, Ok, Err, Option, Result, ◌==◌, nat_le, nat_lt, slice_index_or}
use Rattle.std.specs.List.{prefix_len}
use Rattle.terms.specs.Declines.{Says}
use Rattle.terms.specs.Numbers.{Near, near}
use Rattle.terms.specs.declared.decline.Decline.{Decline}
use Rattle.terms.specs.declared.decline.Layer.TheVariants.{Docket}
use Rattle.fleet.specs.declared.rows.Row.{Row}
use Rattle.fleet.specs.declared.rows.PriceRow.{PriceRow}
use Rattle.fleet.specs.declared.rows.NeedRow.{NeedRow}
use Rattle.fleet.specs.Schedules.{Prices}

-- what a checked row of numbers within ±m holds, by period
abbrev pub numbers_of : {m : ℕ} → Row m → List ℤ
numbers_of r = take r.periods r.numbers

-- what a checked price row says
abbrev pub prices_of : PriceRow → Prices
prices_of r = record { over = r.over; numerators = numbers_of r.numerators }

-- of how many periods
abbrev pub periods_of : PriceRow → ℕ
periods_of r = r.numerators.periods

-- what a checked need row wants, by period
abbrev pub wanted_of : NeedRow → List ℤ
wanted_of r = numbers_of r.wanted

-- a number of a decline, and its place
pub record Fault : Type 0 where
  pub number : ℕ
  pub place : ℕ

abbrev pub fault_at : ℕ → ℕ → Option Fault
fault_at n p = Some (record { number = n; place = p })

-- what is wrong with T numbers within ±m, and then with something else
abbrev pub row_fault : ℕ → ℕ → List ℤ → Option Fault → Option Fault
row_fault T m xs other =
    cond (length xs == T)
    (cond (nat_lt (prefix_len (near m) xs) (length xs)) (fault_at 23 (prefix_len (near m) xs)) other)
    (fault_at 22 0)

abbrev pub need_fault : ℕ → List ℤ → Option Fault
need_fault T xs = row_fault T 32000 xs None

abbrev pub price_fault : ℕ → ℕ → List ℤ → Option Fault
price_fault T d ns = row_fault T 1000000000 ns (cond (nat_le 1 d && nat_le d 1000) None (fault_at 23 T))

-- a row is made where nothing is wrong, and declined with what is wrong first
abbrev pub Made : {X : Type 0} → Option Fault → (X → Type 0) → Result X Decline → Type 0
Made None Is (Ok x) = Is x
Made None Is (Err d) = ⊥
Made (Some f) Is (Ok x) = ⊥
Made (Some f) Is (Err d) = Says Docket f.number f.place d

pub record RowOf {m : ℕ} (T : ℕ) (xs : List ℤ) (r : Row m) : Type 0 where
  pub long : r.periods ≡ T
  pub numbers : numbers_of r ≡ xs

pub record PriceRowOf (T d : ℕ) (ns : List ℤ) (r : PriceRow) : Type 0 where
  pub long : periods_of r ≡ T
  pub prices : prices_of r ≡ record { over = d; numerators = ns }

pub record NeedRowOf (T : ℕ) (xs : List ℤ) (r : NeedRow) : Type 0 where
  pub long : r.wanted.periods ≡ T
  pub needs : wanted_of r ≡ xs

-- T numbers within ±m
pub record Bounded (T m : ℕ) (xs : List ℤ) : Type 0 where
  pub long : length xs ≡ T
  pub each : (t : ℕ) → t < T → Near m (slice_index_or xs t (pos 0))

pub record SoundPrices (T d : ℕ) (ns : List ℤ) : Type 0 where
  pub bounded : Bounded T 1000000000 ns
  pub low : 1 ≤ d
  pub high : d ≤ 1000

-- T numbers, and k is the first of them that is not within ±m
pub record FirstBeyond (T m : ℕ) (xs : List ℤ) (k : ℕ) : Type 0 where
  pub long : length xs ≡ T
  pub below : k < T
  pub beyond : Near m (slice_index_or xs k (pos 0)) → ⊥
  pub before : (i : ℕ) → i < k → Near m (slice_index_or xs i (pos 0))

-- a price row has each fault exactly where it belongs, and no other: 22 where its numbers are not T, 23 at the first
-- beyond the bound, 23 at T where only the denominator is not 1 to 1,000
pub record PriceRowLaw : Type 0 where
  pub none : (T d : ℕ) (ns : List ℤ) → (price_fault T d ns ≡ None) ↔ SoundPrices T d ns
  pub count : (T d : ℕ) (ns : List ℤ) → (price_fault T d ns ≡ fault_at 22 0) ↔ (length ns ≢ T)
  pub number : (T d : ℕ) (ns : List ℤ) (k : ℕ) → k < T → ((price_fault T d ns ≡ fault_at 23 k) ↔ FirstBeyond T 1000000000 ns k)
  pub over : (T d : ℕ) (ns : List ℤ) → (price_fault T d ns ≡ fault_at 23 T) ↔ (Bounded T 1000000000 ns × ((d < 1) ⊎ (1000 < d)))

-- the same of a need row, which has no denominator
pub record NeedRowLaw : Type 0 where
  pub none : (T : ℕ) (xs : List ℤ) → (need_fault T xs ≡ None) ↔ Bounded T 32000 xs
  pub count : (T : ℕ) (xs : List ℤ) → (need_fault T xs ≡ fault_at 22 0) ↔ (length xs ≢ T)
  pub number : (T : ℕ) (xs : List ℤ) (k : ℕ) → (need_fault T xs ≡ fault_at 23 k) ↔ FirstBeyond T 32000 xs k
