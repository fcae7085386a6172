use Rattle.std.proofs.Common.{sym}
use Rattle.day.proofs.begun.answer.Goals as goal

pub returns-in-Need : goal.returns-in-Need
returns-in-Need c T W os xs h = rw (c.in-Need.is, sym c.deref.ensures.0) (c.open.ensures T W os xs h)
