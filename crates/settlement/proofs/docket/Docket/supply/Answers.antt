use Rattle.std.proofs.Common.{length}
use Rattle.settlement.specs.Ledger.{supply}
use Rattle.settlement.specs.Follow.{GoesOn}
use Rattle.settlement.specs.Calls.{Supplies}
use Rattle.settlement.proofs.UnitCalls.{at_passed}
use Rattle.settlement.proofs.Questions.{supply_21_24, supply_goes}
use Rattle.settlement.proofs.docket.Docket.supply.Goals as goal

pub returns-in_err-prices-clause-goes : goal.returns-in_err-prices-clause-goes
returns-in_err-prices-clause-goes g c =
    let d = c.args.self.now in
    let mean = g.F.Fleet.meaning in
    let u = c.args.unit in
    let a = length c.args.fewer.now in
    let b = length c.args.more.now in
    let e = c.in_err-prices.field-0.0 in
    at_passed (λ r. GoesOn mean d d (supply u a b) (Supplies u a b r)) c.from_residual.result e c.from_residual.ensures.1 (supply_21_24 mean d (g.met.F.Fleet.sound d.fleet) u a b e c.in_err-prices.ensures)

pub returns-clause-goes : goal.returns-clause-goes
returns-clause-goes g c =
    let d = c.args.self.now in
    let mean = g.F.Fleet.meaning in
    let u = c.args.unit in
    let row = c.in_ok-prices.prices in
    let a = length c.args.fewer.now in
    let b = length c.args.more.now in
    let done = c.supply.ensures in
    supply_goes mean d (g.met.F.Fleet.sound d.fleet) u a b row c.supply.result c.in_ok-prices.ensures done.supply
