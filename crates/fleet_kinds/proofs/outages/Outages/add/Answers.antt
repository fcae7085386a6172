use Rattle.fleet_kinds.proofs.Unders.{meaning_more}
use Rattle.fleet_kinds.proofs.outages.Outages.add.Goals as goal

pub returns-clause-meaning : goal.returns-clause-meaning
returns-clause-meaning g c =
    meaning_more c.args.self.now.list.items c.args.outage (g.F.Fleet.meaning c.args.self.now.fleet) c.push.new.self.items c.push.ensures.items
