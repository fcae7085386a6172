use Rattle.std.proofs.Common.{◌≡◌, ◌-◌, ◌≤◌, length, take}
use Rattle.std.specs.Prelude.{nat_lt, false}
use Rattle.words.specs.Grammar.{up_to}
use Rattle.words.specs.Shapes.{read}
use Rattle.words.specs.Seen.{state_of}
use Rattle.words.proofs.Repeats.{prepend}
use Rattle.reader.proofs.parts.fill.Given as goal

-- the filled places, and what is left of the repeat, are the whole repeat
abbrev pub invariant-loop-count : goal.invariant-loop-count
invariant-loop-count g l =
    (l.count ≤ length l.places)
    × (prepend (take l.count l.places) (up_to (length l.places - l.count) (nat_lt 0 l.count) (read (g.T.Part.shape l.range.lo l.range.hi)) (state_of l.words))
    ≡ up_to (length l.initial.places) false (read (g.T.Part.shape l.range.lo l.range.hi)) (state_of l.initial.words))

abbrev pub decreases-loop-count : goal.decreases-loop-count
decreases-loop-count g l = length l.initial.places - l.count
