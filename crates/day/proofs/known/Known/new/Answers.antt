use Rattle.std.proofs.Common.{None}
use Rattle.day.proofs.Lasts.{same_at}
use Rattle.day.proofs.known.Known.new.Goals as goal

pub returns : goal.returns
returns c = record { supplies = λ u. same_at 64 u None; shows = λ u. same_at 64 u None }
