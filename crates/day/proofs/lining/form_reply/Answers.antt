use Rattle.day.proofs.Lines.{begun_goes}
use Rattle.day.proofs.lining.form_reply.Goals as goal

pub returns-in-Begun : goal.returns-in-Begun
returns-in-Begun c = rw c.in-Begun.is (begun_goes c.in-Begun.day c.args.form c.answer-session.result.0 c.answer-session.result.1 c.args.line c.entered.result c.answer-session.ensures c.entered.ensures)
