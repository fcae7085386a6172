-- What a fleet under outages ends as, where its own fleet is lent. Assumes nothing.
use Rattle.std.specs.Borrow.{Lends, Fml, RattleType, MutBor}
use Rattle.fleet_kinds.specs.declared.outages.Outages.{Outages}
use Rattle.fleet_kinds.specs.contracts.outages.Outages.{the_row}

module _ (F : RattleType) (outages : MutBor (Outages F.Denot)) where
  -- once the borrow r ends, the fleet is what r shows last, under the same list
  abbrev pub lends_fleet : MutBor F.Denot → Fml
  lends_fleet r = Lends (the_row F) F outages r (λ fleet. record { fleet = fleet; list = outages.now.list })
