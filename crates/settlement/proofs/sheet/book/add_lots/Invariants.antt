use Rattle.std.proofs.Common.{◌≡◌, ℕ, ◌<◌, ◌≤◌, length, get_or, pos, ◌+ℤ◌, ◌*ℤ◌}
use Rattle.settlement.specs.Evidence.{lots_at}
use Rattle.settlement.proofs.sheet.book.add_lots.Given as goal

abbrev pub invariant-loop-period : goal.invariant-loop-period
invariant-loop-period l =
    (length l.sums ≡ 48)
    × ((t : ℕ) → t < l.period → get_or l.sums t (pos 0) ≡ get_or l.initial.sums t (pos 0) +ℤ (pos l.weight *ℤ lots_at l.counted.schedule.now t))
    × ((t : ℕ) → l.period ≤ t → get_or l.sums t (pos 0) ≡ get_or l.initial.sums t (pos 0))
