use Rattle.std.proofs.Common.{length, subst, sym, ◌∙◌}
use Rattle.settlement.specs.Ledger.{supply}
use Rattle.settlement.specs.Calls.{Supplies}
use Rattle.settlement.specs.Follow.{GoesOn}
use Rattle.day.specs.Holding.{mean}
use Rattle.day.proofs.Asks.{supply_known, supply_asked}
use Rattle.day.proofs.open.supply.Goals as goal

pub returns-in-Some : goal.returns-in-Some
returns-in-Some c = supply_known c.args.day.now c.args.unit c.args.line c.in-Some.answer c.supplied.result (sym c.supply.ensures ∙ c.in-Some.is) c.supplied.ensures

pub returns : goal.returns
returns c =
    let day = c.args.day.now in
    let t = c.args.tables.now in
    let u = c.args.unit in
    let q = c.supply-answer.result in
    let a = subst (λ k. GoesOn mean day.docket day.docket (supply u k (length t.more)) (Supplies u k (length t.more) q)) t.fewer_whole c.supply-answer.ensures.goes in
    let b = subst (λ k. GoesOn mean day.docket day.docket (supply u 3920 k) (Supplies u 3920 k q)) t.more_whole a in
    supply_asked day c.keep_supply.new.self u c.args.line q c.supplied-2.result b c.keep_supply.ensures.supplies c.keep_supply.ensures.shows c.supplied-2.ensures
