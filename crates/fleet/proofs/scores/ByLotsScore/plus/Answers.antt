use Rattle.std.proofs.Common.{arith}
use Rattle.std.proofs.lemmas.Int.{ints}
use Rattle.fleet.specs.ScoreLaws.{pair}
use Rattle.fleet.proofs.scores.ByLotsScore.plus.Goals as goal

pub returns : goal.returns
returns g c = let h = c.requires in pair (λ x y. record { gain = x; rank = y }) (omega (arith, ints)) (omega (arith, ints))
