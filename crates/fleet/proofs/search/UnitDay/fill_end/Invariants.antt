use Rattle.std.proofs.Common.{ℕ, ◌<◌, get_or, None}
use Rattle.fleet.specs.Table.{Best, ToGo}
use Rattle.fleet.specs.Rows.{prices_of, periods_of}
use Rattle.fleet.proofs.search.UnitDay.fill_end.Given as goal

abbrev pub invariant-loop-state : goal.invariant-loop-state
invariant-loop-state g l = (a : ℕ) → a < l.state → Best g.S.Score.scale (ToGo g.S.Score.scale ((g.F.Fleet.meaning l.self.fleet.now).model l.self.unit) (prices_of l.self.row.now) (periods_of l.self.row.now) (periods_of l.self.row.now) a) (get_or l.slots a None)
