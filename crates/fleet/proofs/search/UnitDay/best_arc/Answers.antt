use Rattle.std.proofs.Common.{sym, subst, arith}
use Rattle.fleet.specs.Units.{SoundArc}
use Rattle.fleet.proofs.RowFacts.{row_priced}
use Rattle.fleet.proofs.Steps.{via_no_rest, via_best, togo_summed}
use Rattle.fleet.proofs.search.UnitDay.best_arc.Goals as goal

pub returns-in_err-rest : goal.returns-in_err-rest
returns-in_err-rest g c =
    let sp = (g.met.F.Fleet.sound c.args.self.now.fleet.now).each c.args.self.now.unit in
    rw c.from_residual.ensures (via_no_rest g.met.S.Score.lawful _ sp _ _ _ _ _ (rw c.in_err-rest.was at c.requires.next))

pub best_output-requires : goal.best_output-requires
best_output-requires g c =
    let sp = (g.met.F.Fleet.sound c.args.self.now.fleet.now).each c.args.self.now.unit in
    let row = rw c.in_ok-rest.was at c.requires.next in
    record {
      sound = subst SoundArc (sym c.in_ok-range.ensures) (sp.arcs c.args.period c.args.from c.args.to);
      summed = togo_summed g.met.S.Score.lawful _ sp _ (row_priced c.args.self.now.row.now) _ _ _ _ c.args.self.now.row.now.numerators.short (omega arith) row.0;
    }

pub returns : goal.returns
returns g c =
    let sp = (g.met.F.Fleet.sound c.args.self.now.fleet.now).each c.args.self.now.unit in
    let row = rw c.in_ok-rest.was at c.requires.next in
    via_best g.met.S.Score.lawful _ sp _ _ _ _ _ _ _ row (rw c.in_ok-range.ensures at c.best_output.ensures)
