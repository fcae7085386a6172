use Rattle.fleet.specs.Table.{BestTable}
use Rattle.fleet.specs.Rows.{prices_of, periods_of}
use Rattle.fleet.proofs.search.UnitDay.best.Given as goal

abbrev pub invariant-loop-period : goal.invariant-loop-period
invariant-loop-period g l = BestTable g.S.Score.scale ((g.F.Fleet.meaning l.self.fleet.now).model l.self.unit) (prices_of l.self.row.now) (periods_of l.self.row.now) l.period l.table
