use Rattle.fleet.specs.Rows.{prices_of}
use Rattle.fleet.proofs.Checks.{Going}
use Rattle.fleet.proofs.schedules.check_schedule.Given as goal

abbrev pub invariant-loop-step : goal.invariant-loop-step
invariant-loop-step g l = Going ((g.F.Fleet.meaning l.fleet).model l.unit) (prices_of l.row) l.schedule l.step-index l.period l.state l.cost l.gain
