use Rattle.std.proofs.Common.{take}
use Rattle.std.specs.Fmt.{IsPlainFormatter, HasWritten}
use Rattle.replies.specs.Texts.{pays_text}
use Rattle.replies.proofs.texts.put_pays.Given as goal

abbrev pub invariant-loop-unit : goal.invariant-loop-unit
invariant-loop-unit g l = IsPlainFormatter l.initial.f → HasWritten g.W.Write.write_str_gives l.initial.f (pays_text 0 (take l.unit-counter l.pays)) l.f
