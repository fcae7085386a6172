use Rattle.std.proofs.Common.{sym, subst}
use Rattle.settlement.specs.Ledger.{need, price, run, mix}
use Rattle.settlement.specs.Calls.{Enters}
use Rattle.settlement.specs.Follow.{GoesOn}
use Rattle.day.specs.Holding.{mean}
use Rattle.day.proofs.Asks.{entering}
use Rattle.day.proofs.open.answer.Goals as goal

pub returns-in-Need : goal.returns-in-Need
returns-in-Need c T W os xs cs h = rw (c.in-Need.is, sym c.deref.ensures.0) (entering c.args.day.now c.need.new.self (need c.deref.result.now) c.need.result c.args.line c.entered.result c.need.ensures.goes c.entered.ensures T W os xs cs h)

pub returns-in-Price : goal.returns-in-Price
returns-in-Price c T W os xs cs h = rw (c.in-Price.is, sym c.deref-in-Price.ensures.0) (entering c.args.day.now c.price.new.self (price c.in-Price.over c.deref-in-Price.result.now) c.price.result c.args.line c.entered-in-Price.result c.price.ensures.goes c.entered-in-Price.ensures T W os xs cs h)

pub returns-in-Run : goal.returns-in-Run
returns-in-Run c T W os xs cs h =
    let u = c.in-Run.unit in
    let es = c.deref-in-Run.result.now in
    let d = c.args.day.now.docket in
    let g = subst (λ k. GoesOn mean d c.run.new.self (run u es k) (Enters (run u es k) c.run.result)) c.args.tables.now.gains_whole c.run.ensures.goes in
    rw (c.in-Run.is, sym c.deref-in-Run.ensures.0) (entering c.args.day.now c.run.new.self (run u es 3920) c.run.result c.args.line c.entered-in-Run.result g c.entered-in-Run.ensures T W os xs cs h)

pub returns-in-Mix : goal.returns-in-Mix
returns-in-Mix c T W os xs cs h = rw (c.in-Mix.is, sym c.deref-in-Mix.ensures.0) (entering c.args.day.now c.mix.new.self (mix c.in-Mix.unit c.in-Mix.weight c.deref-in-Mix.result.now) c.mix.result c.args.line c.entered-in-Mix.result c.mix.ensures.goes c.entered-in-Mix.ensures T W os xs cs h)

pub returns-in-Supply : goal.returns-in-Supply
returns-in-Supply c T W os xs cs h = rw c.in-Supply.is (c.supply.ensures T W os xs cs h)

pub returns-in-Show : goal.returns-in-Show
returns-in-Show c T W os xs cs h = rw c.in-Show.is (c.show.ensures T W os xs cs h)
