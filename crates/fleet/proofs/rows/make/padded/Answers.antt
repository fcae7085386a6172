use Rattle.std.proofs.Common.{◌++◌, length, pos}
use Rattle.std.proofs.lemmas.List.{drop-replicate}
use Rattle.fleet.proofs.rows.make.padded.Goals as goal

pub returns : goal.returns
returns c = λ i. c.copy_from_slice.ensures.after i ++ drop-replicate (length c.args.numbers.now) 48 (pos 0) i
