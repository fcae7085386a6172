use Rattle.std.proofs.lemmas.Result.{err_from_is_err_and}
use Rattle.settlement.proofs.docket.Docket.verdict.Goals as goal

pub returns-in_err-uplift : goal.returns-in_err-uplift
returns-in_err-uplift g c =
    let p = err_from_is_err_and c.from_residual.result c.from_residual.ensures.1 in
    let found = c.in_err-uplift.ensures in
    rw (p.1, p.2) (rw c.units-units.ensures at found)
