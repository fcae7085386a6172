use Rattle.std.proofs.Common.{◌≡◌, ℕ, ◌<◌, length, get_or, drop, pos, None}
use Rattle.settlement.specs.Weighing.{pay_at}
use Rattle.settlement.proofs.sheet.Sheet.write_pays.Given as goal

abbrev pub invariant-loop-unit : goal.invariant-loop-unit
invariant-loop-unit l =
    ((u : ℕ) → u < l.unit → get_or l.pays u (pos 0) ≡ pay_at (get_or l.self.units u None))
    × (length l.pays ≡ length l.initial.pays)
    × (drop l.units l.pays ≡ drop l.units l.initial.pays)
