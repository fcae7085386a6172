use Rattle.terms.specs.declared.decline.Cause.TheVariants.{NoSchedule}
use Rattle.terms.proofs.Says.{says}
use Rattle.fleet.proofs.Totals.{searched}
use Rattle.fleet.proofs.search.UnitDay.search.Goals as goal

pub returns-clause-best : goal.returns-clause-best
returns-clause-best g c = rw c.ok_or.ensures.value (searched g.S.Score.scale _ _ _ _ _ c.best.result c.at-2.result c.if-table-lt-SLOTS.false c.best.ensures.is (says NoSchedule _ _ c.at-2.ensures))
