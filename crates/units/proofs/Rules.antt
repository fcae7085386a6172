-- Every offer keeps the rule of its kind, and is sound. Assumes nothing.
use Rattle.fleet.specs.Units.{SoundUnit}
use Rattle.reader.specs.declared.offer.Offer.{Offer}
use Rattle.reader.specs.declared.offer.Offer.TheVariants.{Steam, Ramp, Lake, Buyer}
use Rattle.units.specs.Links.{model_of}
use Rattle.units.specs.Offers.{offer_links, KeepsRule}
use Rattle.units.proofs.Fairs.{fair_steam_of, fair_ramp_of, fair_lake_of}
use Rattle.units.proofs.SoundLinks.{SoundLinks, sound_model}
use Rattle.units.proofs.SteamStands.{steam_stands, steam_sound}
use Rattle.units.proofs.RampStands.{ramp_stands, ramp_sound}
use Rattle.units.proofs.LakeStands.{lake_stands, lake_sound}
use Rattle.units.proofs.BuyerStands.{buyer_stands, buyer_sound}

pub keeps_rule : (o : Offer) → KeepsRule o
keeps_rule (Steam o) = steam_stands o.numbers (fair_steam_of o)
keeps_rule (Ramp o) = ramp_stands o.numbers (fair_ramp_of o)
keeps_rule (Lake o) = lake_stands o.numbers (fair_lake_of o)
keeps_rule (Buyer o) = buyer_stands o.steps.places

sound_links : (o : Offer) → SoundLinks (offer_links o)
sound_links (Steam o) = steam_sound o.numbers (fair_steam_of o)
sound_links (Ramp o) = ramp_sound o.numbers (fair_ramp_of o)
sound_links (Lake o) = lake_sound o.numbers (fair_lake_of o)
sound_links (Buyer o) = buyer_sound o.steps.places o.steps.fair o.few

pub offer_sound : (o : Offer) → SoundUnit (model_of (offer_links o))
offer_sound o = sound_model (offer_links o) (sound_links o)
