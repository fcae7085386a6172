use Rattle.std.proofs.Common.{length, refl}
use Rattle.settlement.specs.Ledger.{show}
use Rattle.settlement.specs.Follow.{GoesOn}
use Rattle.settlement.specs.Calls.{Shows}
use Rattle.settlement.proofs.UnitCalls.{at_passed}
use Rattle.settlement.proofs.Questions.{show_21_24, show_goes}
use Rattle.settlement.proofs.docket.Docket.show.Goals as goal

pub returns-in_err-prices-clause-goes : goal.returns-in_err-prices-clause-goes
returns-in_err-prices-clause-goes g c =
    let d = c.args.self.now in
    let mean = g.F.Fleet.meaning in
    let u = c.args.unit in
    let slots = length c.args.table.now in
    let out = c.args.out.now in
    let e = c.in_err-prices.field-0.0 in
    at_passed (λ r. GoesOn mean d d (show u slots (length out)) (Shows u slots out out r)) c.from_residual.result e c.from_residual.ensures.1 (show_21_24 mean d (g.met.F.Fleet.sound d.fleet) u slots out out e refl c.in_err-prices.ensures)

pub returns-clause-goes : goal.returns-clause-goes
returns-clause-goes g c =
    let d = c.args.self.now in
    let mean = g.F.Fleet.meaning in
    let u = c.args.unit in
    let row = c.in_ok-prices.prices in
    let slots = length c.args.table.now in
    let old = c.args.out.now in
    let new = c.first_best.new.out in
    let done = c.first_best.ensures in
    show_goes mean d (g.met.F.Fleet.sound d.fleet) u slots old new row c.first_best.result c.in_ok-prices.ensures done.first
