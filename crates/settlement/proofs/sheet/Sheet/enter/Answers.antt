use Rattle.std.proofs.Common.{Err}
use Rattle.settlement.specs.Reasons.{KeptAtDecline}
use Rattle.settlement.proofs.SheetFacts.{stage_stays, sheet_kept}
use Rattle.settlement.proofs.UnitCalls.{at_passed}
use Rattle.settlement.proofs.sheet.Sheet.enter.Goals as goal

pub returns-in_err-take-clause-kept : goal.returns-in_err-take-clause-kept
returns-in_err-take-clause-kept c =
    let s = c.args.self.now in
    let e = c.in_err-take.field-0.0 in
    let stays = stage_stays c.args.periods.count s.stage c.args.call c.take.new.self e c.in_err-take.ensures in
    at_passed (KeptAtDecline s _) c.from_residual.result e c.from_residual.ensures.1 (sheet_kept {Y = Unit {0}} s c.take.new.self (Err e) _ _ _ _ stays)
