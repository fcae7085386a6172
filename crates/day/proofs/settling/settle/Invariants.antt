use Rattle.std.proofs.Common.{◌+◌, ◌≤◌, length, string_bytes}
use Rattle.day.proofs.Lines.{Going}
use Rattle.day.proofs.settling.settle.Given as goal

abbrev pub invariant-loop-rest : goal.invariant-loop-rest
invariant-loop-rest l = Going l.file l.session l.rest l.line (string_bytes l.text) × (l.line + length l.rest ≤ 1 + length l.file) × (length l.file ≤ 65536)

abbrev pub decreases-loop-rest : goal.decreases-loop-rest
decreases-loop-rest l = length l.rest
