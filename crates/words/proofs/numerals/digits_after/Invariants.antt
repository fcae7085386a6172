use Rattle.std.proofs.Common.{◌≡◌, ◌+◌, ◌^◌, ◌<◌, drop}
use Rattle.words.specs.Numerals.{digits_from}
use Rattle.words.proofs.numerals.digits_after.Given as goal

-- what the digits so far write, and that the rest goes on from it
abbrev pub invariant-loop-digit : goal.invariant-loop-digit
invariant-loop-digit l = (l.n < 10 ^ (l.digit-index + 1)) × (digits_from l.n (drop l.digit-index l.digits) ≡ digits_from l.first l.digits)
