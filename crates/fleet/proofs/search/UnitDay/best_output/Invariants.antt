use Rattle.std.proofs.Common.{◌≤ℤ◌}
use Rattle.fleet.specs.Table.{Best, worth}
use Rattle.fleet.proofs.Outputs.{Tried}
use Rattle.fleet.specs.Rows.{prices_of}
use Rattle.fleet.proofs.search.UnitDay.best_output.Given as goal

abbrev pub invariant-loop-output : goal.invariant-loop-output
invariant-loop-output g l =
    let s = g.S.Score.scale in
    let p = (g.F.Fleet.meaning l.self.fleet.now).model l.self.unit in
    (l.initial.output ≤ℤ l.output) × (l.output ≤ℤ l.output-end) × Best s (Tried (λ q. s.add (worth s p (prices_of l.self.row.now) l.period l.from l.to q) l.rest) l.initial.output l.output) l.best
