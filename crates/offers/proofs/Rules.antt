-- An offer that is added keeps the rule of its kind. Assumes nothing.
use Rattle.reader.specs.declared.offer.Offer.{Offer}
use Rattle.units.specs.Offers.{KeepsRule}
use Rattle.units.proofs.Rules.{keeps_rule}

pub added_keeps : (o : Offer) → KeepsRule o
added_keeps = keeps_rule
