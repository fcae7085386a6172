use Rattle.std.proofs.Common.{ℕ, ◌<◌, get_or, None}
use Rattle.fleet.specs.Table.{Best, ToGo}
use Rattle.fleet.specs.Rows.{prices_of, periods_of}
use Rattle.fleet.proofs.search.UnitDay.fill_period.Given as goal

abbrev pub invariant-loop-from : goal.invariant-loop-from
invariant-loop-from g l = (a : ℕ) → a < l.from → Best g.S.Score.scale (ToGo g.S.Score.scale ((g.F.Fleet.meaning l.self.fleet.now).model l.self.unit) (prices_of l.self.row.now) (periods_of l.self.row.now) l.period a) (get_or l.slots a None)
