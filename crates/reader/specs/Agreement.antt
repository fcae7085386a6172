-- Which numbers of an offer agree, each of them being in its range. Assumes nothing.
use Rattle.std.specs.Prelude.{◌+◌, Bool, cond, ◌&&◌, ◌||◌, List, [], ◌∷◌, ◌==◌, nat_le}
use Rattle.reader.specs.declared.steps.Step.{Step}
use Rattle.reader.specs.declared.numbers.LakeNumbers.{LakeNumbers}
use Rattle.reader.specs.Offers.{between}
use Rattle.reader.specs.Steps.{lots_in}
use Rattle.reader.specs.OfferParts.{SteamValues, RampValues}

-- LO ≤ HI, DOWN ≤ COLD, and the lots of the steps add up to HI
abbrev pub steam_agrees : SteamValues → Bool
steam_agrees v = nat_le v.0.lo v.0.hi && (nat_le v.1.0.down v.1.0.cold && lots_in v.1.1.1.1.0 == v.0.hi)

-- LO ≤ HI ≤ LO + 78, B ≥ LO, A is 0 or LO to HI, and the lots of the steps add up to HI
abbrev pub ramp_agrees : RampValues → Bool
ramp_agrees v =
    (nat_le v.0.lo v.0.hi && nat_le v.0.hi (v.0.lo + 78)) && (nat_le v.0.lo v.1.0.edge && ((v.1.1.1.1.1 == 0 || between v.0.lo v.0.hi v.1.1.1.1.1)
    && lots_in v.1.1.1.1.0 == v.0.hi))

-- L and E at most C
abbrev pub lake_agrees : LakeNumbers → Bool
lake_agrees n = nat_le n.was n.full && nat_le n.end n.full

-- at most 500 lots
abbrev pub buyer_agrees : List Step → Bool
buyer_agrees ss = nat_le (lots_in ss) 500

-- the steps that the places of an offer hold: those before the first that is not used
abbrev pub used : List Step → List Step
used [] = []
used (s ∷ ss) = cond (s.lots == 0) [] (s ∷ used ss)
