use Rattle.std.proofs.Common.{refl}
use Rattle.settlement.proofs.Carries.{docket_kept}
use Rattle.settlement.proofs.RowCalls.{need_goes}
use Rattle.settlement.proofs.docket.Docket.need.Goals as goal

pub returns : goal.returns
returns g c =
    let d = c.args.self.now in
    let done = c.enter.ensures in
    record {
      goes = need_goes g.F.Fleet.meaning d _ refl refl refl done.sums c.args.wanted d.sheet.stage c.enter.result refl done.entered done.kept;
      fleet = refl;
      kept = docket_kept d c.enter.new.self c.enter.result _ _ done.kept;
    }
