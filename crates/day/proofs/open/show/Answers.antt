use Rattle.std.proofs.Common.{sym, ◌∙◌}
use Rattle.day.proofs.Asks.{show_known, show_asked}
use Rattle.day.proofs.open.show.Goals as goal

pub returns-in-Some : goal.returns-in-Some
returns-in-Some c = show_known c.args.day.now c.args.unit c.args.line c.in-Some.answer c.shown.result (sym c.show.ensures ∙ c.in-Some.is) c.shown.ensures

pub returns : goal.returns
returns c = show_asked c.args.day.now c.keep_show.new.self c.args.unit c.args.line c.searched-answer.result c.shown-2.result c.searched-answer.ensures c.keep_show.ensures.shows c.keep_show.ensures.supplies c.shown-2.ensures
