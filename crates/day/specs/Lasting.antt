-- Answers of the open docket that last. Assumes nothing.
use Rattle.std.specs.Prelude.{◌≡◌, ℕ, Bool, true, ◌⊎◌, List, length, ℤ, Some, None, Ok, Err, Option, Result, ◌==◌, slice_index_or}
use Rattle.terms.specs.Declines.{number_of}
use Rattle.terms.specs.declared.decline.Decline.{Decline}
use Rattle.terms.specs.declared.entry.Entry.{Entry}
use Rattle.fleet.specs.Units.{Meaning}
use Rattle.replies.specs.declared.reply.Reply.{Reply}
use Rattle.replies.specs.declared.reply.Reply.TheVariants.{No}
use Rattle.day.specs.Answering.{ShownAs}
use Rattle.settlement.specs.Ledger.{Ledger, is_priced}
use Rattle.settlement.specs.Calls.{Supplies, Shows}

-- an answer for which the unit's schedules were gone through: not a decline, or a 32
abbrev pub lasts : {X : Type 0} → Result X Decline → Bool
lasts (Ok x) = true
lasts (Err d) = number_of d.cause == 32

-- at most this lasting answer is new, in its unit's place
abbrev pub AddsAt : {X : Type 0} → ℕ → Result X Decline → List (Option (Result X Decline)) → List (Option (Result X Decline)) → Type 0
AddsAt {X} u answer old new =
    (v : ℕ) (q : Result X Decline) → slice_index_or new v None ≡ Some q
    → (slice_index_or old v None ≡ Some q) ⊎ ((v ≡ u) × (q ≡ answer) × (lasts answer ≡ true))

-- what a whole buffer holds that a show wrote, or why it is declined
abbrev pub ShowIs : ℕ → Result (List Entry) Decline → Meaning → ℕ → ℕ → Ledger → Type 0
ShowIs u (Ok es) m T W l = (length es ≡ 48) × Shows u 3920 es es (Ok tt) m T W l
ShowIs u (Err d) m T W l = (es : List Entry) × (length es ≡ 48) × Shows u 3920 es es (Err d) m T W l

-- the reply to a whole buffer, or a decline
abbrev pub ShownSo : ℕ → ℕ → ℕ → Result (List Entry) Decline → Reply → Type 0
ShownSo u T line (Ok es) r = ShownAs u T line es (Ok tt) r
ShownSo u T line (Err d) r = r ≡ No d line

-- what is kept is what the docket, which is priced, answers at the ledger
pub record Lasting (m : Meaning) (T W : ℕ) (l : Ledger) (supplies : List (Option (Result (ℤ × ℤ × ℤ) Decline))) (shows : List (Option (Result (List Entry) Decline))) : Type 0 where
  pub supply : (u : ℕ) (q : Result (ℤ × ℤ × ℤ) Decline) → slice_index_or supplies u None ≡ Some q → (is_priced l.stage ≡ true) × Supplies u 3920 3920 q m T W l
  pub show : (u : ℕ) (q : Result (List Entry) Decline) → slice_index_or shows u None ≡ Some q → (is_priced l.stage ≡ true) × ShowIs u q m T W l
