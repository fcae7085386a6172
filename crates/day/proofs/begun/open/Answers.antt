use Rattle.day.proofs.Opens.{opened_so}
use Rattle.day.proofs.begun.open.Goals as goal

pub returns-in-Ok : goal.returns-in-Ok
returns-in-Ok c =
    let day = c.args.day in
    let o = c.in-Ok.ensures.opened in
    opened_so day c.args.wanted.now c.units-units.result c.in-Ok.docket c.need-answer.new.self c.new.result c.need-answer.result c.units-units.ensures o.0 o.2 c.need-answer.ensures.goes c.new.ensures.supplies c.new.ensures.shows
