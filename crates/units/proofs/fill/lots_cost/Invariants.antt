use Rattle.units.proofs.Fills.{Filling}
use Rattle.units.proofs.fill.lots_cost.Given as goal

abbrev pub invariant-loop-step : goal.invariant-loop-step
invariant-loop-step l = Filling l.steps.places l.lots l.step-index l.rest l.cost
