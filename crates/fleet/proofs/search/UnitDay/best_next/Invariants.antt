use Rattle.fleet.specs.Table.{Best}
use Rattle.fleet.proofs.Steps.{Upto}
use Rattle.fleet.specs.Rows.{prices_of, periods_of}
use Rattle.fleet.proofs.search.UnitDay.best_next.Given as goal

abbrev pub invariant-loop-to : goal.invariant-loop-to
invariant-loop-to g l =
    let s = g.S.Score.scale in
    let p = (g.F.Fleet.meaning l.self.fleet.now).model l.self.unit in
    Best s (Upto s p (prices_of l.self.row.now) (periods_of l.self.row.now) l.period l.from l.to) l.best
