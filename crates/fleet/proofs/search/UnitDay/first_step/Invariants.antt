use Rattle.std.proofs.Common.{◌≤ℤ◌}
use Rattle.fleet.proofs.Firsts.{NoneBelow, NoneUnder}
use Rattle.fleet.specs.Rows.{prices_of, periods_of}
use Rattle.fleet.proofs.search.UnitDay.first_step.Given as goal

abbrev pub invariant-loop-to : goal.invariant-loop-to
invariant-loop-to g l = NoneBelow g.S.Score.scale ((g.F.Fleet.meaning l.self.fleet.now).model l.self.unit) (prices_of l.self.row.now) (periods_of l.self.row.now) l.period l.from l.best l.to

abbrev pub invariant-loop-output : goal.invariant-loop-output
invariant-loop-output g l = (l.initial.output ≤ℤ l.output) × (l.output ≤ℤ l.output-end) × NoneUnder g.S.Score.scale ((g.F.Fleet.meaning l.self.fleet.now).model l.self.unit) (prices_of l.self.row.now) (periods_of l.self.row.now) l.period l.from l.best l.to l.output
