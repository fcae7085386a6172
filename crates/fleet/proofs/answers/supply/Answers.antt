use Rattle.std.proofs.Common.{true, false, arith, w64, SFits, rules}
use Rattle.std.proofs.lemmas.Int.{to_z-of_z}
use Rattle.fleet.proofs.Supplies.{lots_held, supplied, supply_law}
use Rattle.fleet.proofs.answers.supply.Goals as goal

pub lots-requires : goal.lots-requires
lots-requires g c = (omega arith, lots_held true _ ((g.met.F.Fleet.sound c.args.fleet.now).each c.args.unit) c.args.row.now c.in_ok-least.least c.in_ok-least.ensures.best.1)

pub lots-requires-2 : goal.lots-requires-2
lots-requires-2 g c = (omega arith, lots_held false _ ((g.met.F.Fleet.sound c.args.fleet.now).each c.args.unit) c.args.row.now c.in_ok-most.most c.in_ok-most.ensures.best.1)

pub returns-clause-supply : goal.returns-clause-supply
returns-clause-supply g c =
    let fg : SFits w64 c.in_ok-least.least.gain = search rules in
    let fl : SFits w64 c.lots.result = search rules in
    let fm : SFits w64 c.lots-2.result = search rules in
    ((c.in_ok-least.ensures.best.0, c.in_ok-most.ensures.best.0), simp to_z-of_z (supplied _ _ _ c.in_ok-least.least c.in_ok-most.most c.in_ok-least.ensures.best.1 c.in_ok-most.ensures.best.1 c.lots.result c.lots-2.result c.lots.ensures c.lots-2.ensures))

pub returns-then-more-lt-SLOTS-clause-law : goal.returns-then-more-lt-SLOTS-clause-law
returns-then-more-lt-SLOTS-clause-law g c = supply_law

pub returns-in_err-least-clause-law : goal.returns-in_err-least-clause-law
returns-in_err-least-clause-law g c = supply_law

pub returns-in_err-most-clause-law : goal.returns-in_err-most-clause-law
returns-in_err-most-clause-law g c = supply_law

pub returns-clause-law : goal.returns-clause-law
returns-clause-law g c = supply_law
