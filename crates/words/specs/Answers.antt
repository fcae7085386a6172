-- What a reader of the code answers, as the grammar sees it. Assumes nothing.
use Rattle.std.specs.Prelude.{Ok, Err, Result}
use Rattle.terms.specs.declared.decline.Decline.{Decline}
use Rattle.terms.specs.Declines.{number_of}
use Rattle.words.specs.declared.line.Words.{Words}
use Rattle.words.specs.Grammar.{Answer, got, no}
use Rattle.words.specs.Seen.{state_of}

-- by what the value stands for
abbrev pub answer_by : {A B : Type 0} → (A → B) → Result A Decline → Words → Answer B
answer_by f (Ok a) w = got (f a) (state_of w)
answer_by f (Err d) w = no (number_of d.cause) d.place

abbrev pub answer_of : {A : Type 0} → Result A Decline → Words → Answer A
answer_of (Ok a) w = got a (state_of w)
answer_of (Err d) w = no (number_of d.cause) d.place
