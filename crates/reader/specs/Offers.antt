-- Which numbers make an offer. Assumes nothing.
use Rattle.std.specs.Prelude.{ℕ, ◌+◌, Bool, ◌&&◌, ◌||◌, List, pos, ◌==◌, int_le, nat_le}
use Rattle.std.specs.List.{list_all}
use Rattle.reader.specs.declared.steps.Step.{Step}
use Rattle.reader.specs.declared.steps.Steps.{Steps}
use Rattle.reader.specs.declared.numbers.Run.{Run}
use Rattle.reader.specs.declared.numbers.Rest.{Rest}
use Rattle.reader.specs.declared.numbers.StartCosts.{StartCosts}
use Rattle.reader.specs.declared.numbers.Was.{Was}
use Rattle.reader.specs.declared.numbers.Was.TheVariants.{On, Off}
use Rattle.reader.specs.declared.numbers.SteamNumbers.{SteamNumbers}
use Rattle.reader.specs.declared.numbers.Rate.{Rate}
use Rattle.reader.specs.declared.numbers.RampNumbers.{RampNumbers}
use Rattle.reader.specs.declared.numbers.LakeNumbers.{LakeNumbers}
use Rattle.reader.specs.Steps.{lots_in}

-- n is one of lo to hi
abbrev pub between : ℕ → ℕ → ℕ → Bool
between lo hi n = nat_le lo n && nat_le n hi

-- 1 ≤ lo ≤ hi ≤ 500
abbrev pub fair_run : Run → Bool
fair_run r = nat_le 1 r.lo && between r.lo 500 r.hi

-- an amount of money: to 100,000,000 cents
abbrev pub fair_money : ℕ → Bool
fair_money n = nat_le n 100000000

-- the lots of all steps are as many as hi
abbrev pub fills : Steps → Run → Bool
fills s r = lots_in s.places == r.hi

-- steam --

-- 1 to 24 periods on and off, and cold after no fewer than those off, at most 48
abbrev pub fair_times : Rest → Bool
fair_times r = between 1 24 r.up && (between 1 24 r.down && between r.down 48 r.cold)

abbrev pub fair_costs : StartCosts → ℕ → Bool
fair_costs s idle = fair_money s.hot && (fair_money s.frost && fair_money idle)

-- 1 to 48 periods on or off before the day
abbrev pub fair_was : Was → Bool
fair_was (On m) = between 1 48 m
fair_was (Off m) = between 1 48 m

abbrev pub fair_steam : SteamNumbers → Bool
fair_steam n = (fair_run n.run && fair_times n.rest) && (fair_costs n.start n.idle && (fair_was n.was && fills n.steps n.run))

-- ramp --

-- at most 79 outputs
abbrev pub narrow : Run → Bool
narrow r = nat_le r.hi (r.lo + 78)

-- 1 to 500, and lo may stand beside a period off
abbrev pub fair_rate : Rate → Run → Bool
fair_rate v r = between 1 500 v.step && between r.lo 500 v.edge

-- off, or an output of a unit that is on
abbrev pub fair_output : ℕ → Run → Bool
fair_output n r = n == 0 || between r.lo r.hi n

abbrev pub fair_ramp : RampNumbers → Bool
fair_ramp n = ((fair_run n.run && narrow n.run) && fair_rate n.rate n.run) && ((fair_money n.start && fair_money n.idle) && (fair_output n.was n.run && fills n.steps n.run))

-- lake --

abbrev pub fair_lake : LakeNumbers → Bool
fair_lake n =
    (between 1 79 n.full && (nat_le n.flow.fall 79 && nat_le n.flow.rise 79))
    && (nat_le n.wear 100000 && (nat_le n.was n.full && nat_le n.end n.full))

-- a lake that never moves
abbrev pub still_water : LakeNumbers
still_water = record { full = 1; flow = record { fall = 0; rise = 0 }; wear = 0; was = 0; end = 0 }

-- buyer --

-- no lot has a negative price
abbrev pub no_price_below : List Step → Bool
no_price_below ss = list_all (λ s. int_le (pos 0) s.price) ss

abbrev pub fair_buyer : Steps → Bool
fair_buyer s = no_price_below s.places && nat_le (lots_in s.places) 500
