use Rattle.std.proofs.Common.{refl, arith}
use Rattle.settlement.specs.Stages.{call_place}
use Rattle.settlement.proofs.SheetFacts.{rows_yes}
use Rattle.settlement.proofs.docket.Docket.unit_prices.Goals as goal

pub returns : goal.returns
returns g c =
    let at = rows_yes c.args.self.now.sheet.stage (call_place c.args.call) c.in_ok-rows.rows c.in_ok-rows.ensures in
    ((c.in_ok-rows.rows, at, refl), omega (arith, c.if-unit-units.false, c.units.ensures, c.place-unit.ensures))
