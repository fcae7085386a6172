-- The rule of steam units, on outputs and on the states that these give. It takes nothing from the unit's own
-- definitions but the unit itself. Assumes nothing.
use Rattle.std.specs.Prelude.{◌≡◌, ℕ, zero, suc, ◌+◌, ◌-◌, ◌<◌, ◌≤◌, min, Bool, true, false, cond, not, ◌&&◌, List, length, ℤ, pos, ◌+ℤ◌, ◌≤ℤ◌, int_lt, nat_le, slice_index_or, unsigned_abs}
use Rattle.terms.specs.Sums.{sum_to}
use Rattle.reader.specs.declared.numbers.Rest.{Rest}
use Rattle.reader.specs.declared.numbers.Was.{Was}
use Rattle.reader.specs.declared.numbers.Was.TheVariants.{On, Off}
use Rattle.reader.specs.declared.numbers.SteamNumbers.{SteamNumbers}
use Rattle.units.specs.Fill.{fill}
use Rattle.units.specs.SteamUnits.{steam_links}
use Rattle.units.specs.Links.{model_of}
use Rattle.units.specs.Agree.{OfKind, SameStates}

-- on means an output above 0
abbrev pub runs : ℤ → Bool
runs q = int_lt (pos 0) q

-- k + 1 periods before the day's first: as it was for so many periods, and the opposite before those
abbrev pub before_day : Was → ℕ → Bool
before_day (On m) k = cond (nat_le (suc k) m) true false
before_day (Off m) k = cond (nat_le (suc k) m) false true

-- whether it was on k periods before period t, which may lie before the day
abbrev pub status : (ℕ → Bool) → List ℤ → ℕ → ℕ → Bool
status past qs t k = cond (nat_le k t) (runs (slice_index_or qs (t - k) (pos 0))) (past (k - t - 1))

-- what is asked of a period with output q, where `was k` says whether it was on k periods before
pub record Period (n : SteamNumbers) (was : ℕ → Bool) (q : ℤ) : Type 0 where
  -- on puts out LO to HI, off nothing
  pub on : was 0 ≡ true → (pos n.run.lo ≤ℤ q) × (q ≤ℤ pos n.run.hi)
  pub off : was 0 ≡ false → q ≡ pos 0
  -- where it stops, the UP periods before were all on
  pub stops : was 0 ≡ false → was 1 ≡ true → (k : ℕ) → 1 ≤ k → k ≤ n.rest.up → was k ≡ true
  -- where it starts, the DOWN periods before were all off
  pub starts : was 0 ≡ true → was 1 ≡ false → (k : ℕ) → 1 ≤ k → k ≤ n.rest.down → was k ≡ false

-- the n periods before were all off
abbrev pub all_off : (ℕ → Bool) → ℕ → Bool
all_off was zero = true
all_off was (suc n) = not (was (suc n)) && all_off was n

-- a start costs FROST where the COLD periods before were all off, else HOT
abbrev pub start_cost : SteamNumbers → (ℕ → Bool) → ℕ
start_cost n was = cond (was 1) 0 (cond (all_off was n.rest.cold) n.start.frost n.start.hot)

abbrev pub period_cost : SteamNumbers → (ℕ → Bool) → ℤ → ℤ
period_cost n was q = cond (was 0) (pos (n.idle + start_cost n was) +ℤ fill n.steps.places (unsigned_abs q)) (pos 0)

abbrev pub ObeysAfter : SteamNumbers → (ℕ → Bool) → List ℤ → Type 0
ObeysAfter n past qs = (t : ℕ) → t < length qs → Period n (status past qs t) (slice_index_or qs t (pos 0))

abbrev pub cost_after : SteamNumbers → (ℕ → Bool) → List ℤ → ℤ
cost_after n past qs = sum_to (length qs) (λ t. period_cost n (status past qs t) (slice_index_or qs t (pos 0)))

-- a day's outputs obey the rule of steam units
abbrev pub SteamObeys : SteamNumbers → List ℤ → Type 0
SteamObeys n qs = ObeysAfter n (before_day n.was) qs

abbrev pub steam_cost : SteamNumbers → List ℤ → ℤ
steam_cost n qs = cost_after n (before_day n.was) qs

-- whether it was on k + 1 periods before period t
abbrev pub history : (ℕ → Bool) → List ℤ → ℕ → ℕ → Bool
history past qs t k = status past qs t (suc k)

-- at the end of its history, in which `was 0` is the last period, it was on, or off, for i periods and no longer
pub record RunsFor (was : ℕ → Bool) (on : Bool) (i : ℕ) : Type 0 where
  pub some : 1 ≤ i
  pub same : (k : ℕ) → k < i → was k ≡ on
  pub other : was i ≡ not on

-- on for i periods is state i - 1, for UP or more UP - 1; off for i periods is UP + i - 1, for COLD or more UP + COLD - 1
abbrev pub run_state : Rest → Bool → ℕ → ℕ
run_state r true i = min i r.up - 1
run_state r false i = r.up + min i r.cold - 1

-- the state is that of the run at the end of the history
pub record StateAfter (r : Rest) (was : ℕ → Bool) (a : ℕ) : Type 0 where
  pub on : Bool
  pub periods : ℕ
  pub run : RunsFor was on periods
  pub is : a ≡ run_state r on periods

abbrev pub SteamIn : SteamNumbers → List ℤ → ℕ → ℕ → Type 0
SteamIn n qs t a = StateAfter n.rest (history (before_day n.was) qs t) a

abbrev pub SteamRule : SteamNumbers → Type 0
SteamRule n =
    OfKind (model_of (steam_links n)) (n.rest.up + n.rest.cold) (SteamObeys n) (SteamObeys n) (SteamIn n) (steam_cost n)
    × ((w : Was) → SameStates (model_of (steam_links n)) (model_of (steam_links (record n { was = w }))))
