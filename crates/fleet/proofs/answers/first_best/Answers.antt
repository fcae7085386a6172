use Rattle.std.proofs.Common.{arith}
use Rattle.fleet.proofs.FirstBests.{first_is, first_law}
use Rattle.fleet.proofs.answers.first_best.Goals as goal

pub returns-then-out-periods-clause-law : goal.returns-then-out-periods-clause-law
returns-then-out-periods-clause-law g c = first_law

pub returns-in_err-best-clause-law : goal.returns-in_err-best-clause-law
returns-in_err-best-clause-law g c = first_law

pub returns-clause-first : goal.returns-clause-first
returns-clause-first g c = (((c.in_ok-best.ensures.best.0, omega (arith, c.if-out-periods.false, c.periods.ensures)), first_is _ _ _ c.in_ok-best.best _ c.in_ok-best.ensures.best.1 c.trace.ensures.first), c.trace.ensures.past)

pub returns-clause-law : goal.returns-clause-law
returns-clause-law g c = first_law
