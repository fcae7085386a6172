-- The worked day, of two steam units and one period, and the units of the other days. Assumes nothing.
use Rattle.std.specs.Prelude.{ℕ, List, [], ◌∷◌, pos, refl}
use Rattle.terms.specs.declared.entry.Entry.{Entry}
use Rattle.fleet.specs.Units.{Meaning}
use Rattle.reader.specs.declared.steps.Step.{Step}
use Rattle.reader.specs.declared.numbers.Rest.{Rest}
use Rattle.reader.specs.declared.numbers.Was.TheVariants.{On, Off}
use Rattle.reader.specs.declared.steam.Steam.{Steam as SteamOffer}
use Rattle.reader.specs.declared.ramp.Ramp.{Ramp as RampOffer}
use Rattle.reader.specs.declared.lake.Lake.{Lake as LakeOffer}
use Rattle.reader.specs.declared.offer.Offer.TheVariants.{Steam, Ramp, Lake}
use Rattle.reader.specs.Steps.{no_step}
use Rattle.offers.specs.Books.{book_meaning}
use Rattle.settlement.specs.Ledger.{Ledger, Call, need, price, run, mix, ledger}

abbrev pub one_step : Step → List Step
one_step s = s ∷ no_step ∷ no_step ∷ no_step ∷ []

abbrev pub free : Rest
free = record { up = 1; down = 1; cold = 1 }

-- 1 to 10 lots at 5 cents, on before the day
abbrev pub first : SteamOffer
first = record {
  numbers = record {
    run = record { lo = 1; hi = 10 };
    rest = free;
    start = record { hot = 0; frost = 0 };
    idle = 0;
    steps = record { places = one_step (record { lots = 10; price = pos 5 }); four = refl; fair = refl };
    was = On 1;
  };
  run = refl;
  times = refl;
  costs = refl;
  was = refl;
  steps = refl;
}

-- 4 lots for 16 cents and 2 cents a lot, off before the day
abbrev pub second : SteamOffer
second = record {
  numbers = record {
    run = record { lo = 4; hi = 4 };
    rest = free;
    start = record { hot = 16; frost = 16 };
    idle = 0;
    steps = record { places = one_step (record { lots = 4; price = pos 2 }); four = refl; fair = refl };
    was = Off 1;
  };
  run = refl;
  times = refl;
  costs = refl;
  was = refl;
  steps = refl;
}

abbrev pub both : Meaning
both = book_meaning (Steam first ∷ Steam second ∷ [])

-- state 0 is on, state 1 off
abbrev pub on : ℕ → List Entry
on lots = record { state = 0; output = pos lots } ∷ []

abbrev pub off : List Entry
off = record { state = 1; output = pos 0 } ∷ []

-- the need is 12 lots, the price so many cents a lot, the runs are 8 and 4 lots
abbrev pub calls : ℕ → List Call → List Call
calls cents mixes = need (pos 12 ∷ []) ∷ price 1 (pos cents ∷ []) ∷ run 0 (on 8) 3920 ∷ run 1 (on 4) 3920 ∷ mixes

abbrev pub half_off : List Call
half_off = mix 0 2 (on 10) ∷ mix 1 1 (on 4) ∷ mix 1 1 off ∷ []

abbrev pub never_off : List Call
never_off = mix 0 2 (on 10) ∷ mix 1 2 (on 4) ∷ []

abbrev pub day_at : ℕ → Ledger
day_at cents = ledger both 1 2 (calls cents half_off)

-- a ramp unit that moves by at most 5 lots between periods on, at 20 lots before the day
abbrev pub ramp : RampOffer
ramp = record {
  numbers = record {
    run = record { lo = 20; hi = 30 };
    rate = record { step = 5; edge = 30 };
    start = 0;
    idle = 0;
    steps = record { places = one_step (record { lots = 30; price = pos 1 }); four = refl; fair = refl };
    was = 20;
  };
  run = refl;
  narrow = refl;
  rate = refl;
  start = refl;
  idle = refl;
  was = refl;
  steps = refl;
}

abbrev pub ramping : Meaning
ramping = book_meaning (Ramp ramp ∷ [])

-- an empty lake that rises by at most 2 and has to end at 5
abbrev pub lake : LakeOffer
lake = record { numbers = record { full = 10; flow = record { fall = 2; rise = 2 }; wear = 0; was = 0; end = 5 }; fair = refl }

abbrev pub filling : Meaning
filling = book_meaning (Lake lake ∷ [])

-- a day of two periods with no need and no price
abbrev pub nothing_asked : Ledger
nothing_asked = ledger filling 2 1 (need (pos 0 ∷ pos 0 ∷ []) ∷ price 1 (pos 0 ∷ pos 0 ∷ []) ∷ [])
