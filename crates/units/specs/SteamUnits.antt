-- A steam unit by its states: on for i periods is state i - 1, for UP or more UP - 1; off for j periods is UP + j - 1,
-- for COLD or more UP + COLD - 1. Assumes nothing.
use Rattle.std.specs.Prelude.{ℕ, ◌+◌, ◌-◌, min, Bool, true, false, cond, ◌&&◌, ℤ, pos, ◌+ℤ◌, ◌==◌, nat_le, nat_lt, unsigned_abs}
use Rattle.fleet.specs.declared.records.Range.{Range}
use Rattle.reader.specs.declared.numbers.Run.{Run}
use Rattle.reader.specs.declared.numbers.Rest.{Rest}
use Rattle.reader.specs.declared.numbers.Was.{Was}
use Rattle.reader.specs.declared.numbers.Was.TheVariants.{On, Off}
use Rattle.reader.specs.declared.numbers.SteamNumbers.{SteamNumbers}
use Rattle.units.specs.Fill.{fill}
use Rattle.units.specs.Links.{Links}

abbrev pub was_on : Was → Bool
was_on (On m) = true
was_on (Off m) = false

abbrev pub was_for : Was → ℕ
was_for (On m) = m
was_for (Off m) = m

abbrev pub is_on : Rest → ℕ → Bool
is_on r a = nat_lt a r.up

-- the state after so many periods on, or off
abbrev pub after_periods : Rest → Bool → ℕ → ℕ
after_periods r true m = min m r.up - 1
after_periods r false m = r.up + min m r.cold - 1

-- the state after state a, in a period on or off
abbrev pub goes_to : Rest → ℕ → Bool → ℕ
goes_to r a true = cond (is_on r a) (min (a + 1) (r.up - 1)) 0
goes_to r a false = cond (is_on r a) r.up (r.up + min (a + 1 - r.up) (r.cold - 1))

-- off for DOWN periods before a start, on for UP periods before a stop
abbrev pub may : Rest → ℕ → Bool → Bool
may r a true = cond (is_on r a) true (nat_le r.down (a + 1 - r.up))
may r a false = cond (is_on r a) (a + 1 == r.up) true

abbrev pub steam_linked : Rest → ℕ → ℕ → Bool
steam_linked r a b = b == goes_to r a (is_on r b) && may r a (is_on r b)

abbrev pub steam_outputs : Run → Bool → Range
steam_outputs r true = record { lo = pos r.lo; hi = pos r.hi }
steam_outputs r false = record { lo = pos 0; hi = pos 0 }

-- what it costs to be on after state a, beside the period itself
abbrev pub starting : SteamNumbers → ℕ → ℕ
starting n a = cond (is_on n.rest a) 0 (cond (nat_le n.rest.cold (a + 1 - n.rest.up)) n.start.frost n.start.hot)

abbrev pub steam_charge : SteamNumbers → ℕ → ℕ → Bool → ℤ
steam_charge n a q true = pos (n.idle + starting n a) +ℤ fill n.steps.places q
steam_charge n a q false = pos 0

abbrev pub steam_links : SteamNumbers → Links
steam_links n = record {
  states = n.rest.up + n.rest.cold;
  start = after_periods n.rest (was_on n.was) (was_for n.was);
  linked = steam_linked n.rest;
  outputs = λ a b. steam_outputs n.run (is_on n.rest b);
  charge = λ a b q. steam_charge n a (unsigned_abs q) (is_on n.rest b);
  ends = λ a. true;
}
