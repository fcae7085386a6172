use Rattle.std.proofs.Common.{◌≡◌, ◌*◌, get_or, None}
use Rattle.terms.specs.Numbers.{Near}
use Rattle.terms.specs.Sums.{sum_to}
use Rattle.settlement.specs.Weighing.{pay_at}
use Rattle.settlement.proofs.sheet.weighing.uplift.Given as goal

abbrev pub invariant-loop-standing : goal.invariant-loop-standing
invariant-loop-standing l =
    (l.uplift ≡ sum_to l.standing-index (λ u. pay_at (get_or l.standings u None)))
    × Near (96000000000000 * l.standing-index) l.uplift
