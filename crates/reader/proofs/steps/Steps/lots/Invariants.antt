use Rattle.std.proofs.Common.{◌≡◌, ◌+◌, ◌*◌, ◌≤◌, drop}
use Rattle.reader.specs.Steps.{lots_in}
use Rattle.reader.proofs.steps.Steps.lots.Given as goal

abbrev pub invariant-loop-step : goal.invariant-loop-step
invariant-loop-step l = (l.lots + lots_in (drop l.step-index l.self.places) ≡ lots_in l.self.places) × (l.lots ≤ 500 * l.step-index)
