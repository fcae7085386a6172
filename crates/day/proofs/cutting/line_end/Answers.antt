use Rattle.std.proofs.Common.{length, Option, ℕ, ap, ◌∙◌}
use Rattle.std.specs.Option.{unwrap_or}
use Rattle.day.proofs.Cuts.{end_is}
use Rattle.day.proofs.cutting.line_end.Goals as goal

pub returns : goal.returns
returns c = c.unwrap_or.ensures ∙ ap (λ (o : Option ℕ). unwrap_or o (length c.args.bytes.now)) c.newline_in.ensures ∙ end_is c.args.bytes.now
