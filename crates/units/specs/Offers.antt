-- What an offer is as a unit, and its rule. Assumes nothing.
use Rattle.reader.specs.declared.offer.Offer.{Offer}
use Rattle.reader.specs.declared.offer.Offer.TheVariants.{Steam, Ramp, Lake, Buyer}
use Rattle.units.specs.Links.{Links}
use Rattle.units.specs.SteamUnits.{steam_links}
use Rattle.units.specs.RampUnits.{ramp_links}
use Rattle.units.specs.LakeUnits.{lake_links}
use Rattle.units.specs.BuyerUnits.{buyer_links}
use Rattle.units.specs.SteamRules.{SteamRule}
use Rattle.units.specs.RampRules.{RampRule}
use Rattle.units.specs.LakeRules.{LakeRule}
use Rattle.units.specs.BuyerRules.{BuyerRule}

abbrev pub offer_links : Offer → Links
offer_links (Steam o) = steam_links o.numbers
offer_links (Ramp o) = ramp_links o.numbers
offer_links (Lake o) = lake_links o.numbers
offer_links (Buyer o) = buyer_links o.steps.places

-- the offer's schedules are exactly those of the rule of its kind, at its cost and in its states
abbrev pub KeepsRule : Offer → Type 0
KeepsRule (Steam o) = SteamRule o.numbers
KeepsRule (Ramp o) = RampRule o.numbers
KeepsRule (Lake o) = LakeRule o.numbers
KeepsRule (Buyer o) = BuyerRule o.steps.places
