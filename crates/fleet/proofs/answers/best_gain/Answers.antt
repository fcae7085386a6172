use Rattle.std.proofs.Common.{w64, SFits, rules}
use Rattle.std.proofs.lemmas.Int.{to_z-of_z}
use Rattle.fleet.proofs.BestGains.{best_gain_is}
use Rattle.fleet.proofs.answers.best_gain.Goals as goal

pub returns-clause-best : goal.returns-clause-best
returns-clause-best g c =
    let fits : SFits w64 c.in_ok-best.best.gain = search rules in
    (c.in_ok-best.ensures.best.0, simp to_z-of_z (best_gain_is _ _ _ c.in_ok-best.best c.in_ok-best.ensures.best.1))
