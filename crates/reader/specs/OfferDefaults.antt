-- The offer that fills unused places. Assumes nothing.
use Rattle.std.specs.Prelude.{◌≡◌}
use Rattle.reader.specs.declared.offer.Offer.{Offer}
use Rattle.reader.specs.declared.offer.Offer.TheVariants.{Steam, Ramp, Lake, Buyer}
use Rattle.reader.specs.Offers.{still_water}

-- a lake that never moves
abbrev pub IsStill : Offer → Type 0
IsStill (Steam o) = ⊥
IsStill (Ramp o) = ⊥
IsStill (Lake o) = o.numbers ≡ still_water
IsStill (Buyer o) = ⊥
