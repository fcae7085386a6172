-- How a session goes on: what it held the file to have said, it holds after one form more. Assumes nothing.
use Rattle.std.specs.Prelude.{◌≡◌, ℕ, List, [], ◌∷◌, ◌++◌, ℤ, Option, Result}
use Rattle.terms.specs.declared.decline.Decline.{Decline}
use Rattle.reader.specs.declared.form.Form.{Form}
use Rattle.reader.specs.declared.offer.Offer.{Offer as AnOffer}
use Rattle.reader.specs.Forms.{line_told, told_of}
use Rattle.fleet_kinds.specs.declared.outages.Outage.{Outage}
use Rattle.fleet.specs.Units.{Meaning}
use Rattle.settlement.specs.Ledger.{Ledger, Call, need, ledger}
use Rattle.settlement.specs.Calls.{open_fault}
use Rattle.replies.specs.declared.reply.Reply.{Reply}
use Rattle.day.specs.declared.session.Session.{Session}
use Rattle.day.specs.declared.session.BegunDay.{BegunDay}
use Rattle.day.specs.declared.session.OpenDay.{OpenDay}
use Rattle.day.specs.declared.session.Session.TheVariants.{Begun, Open}
use Rattle.day.specs.Said.{Said, fleet_of, begun, opened, opening, call_of, with_call, after_begun, after_form, after_line}
use Rattle.day.specs.Holding.{Holds}
use Rattle.day.specs.Answering.{enters, OpeningReply, BegunReply, DocketReply, FormReply, LineReply}

-- the need that opens the docket
abbrev pub NeedGoes : BegunDay → List ℤ → Session → Result (Unit {0}) Decline → Type 0
NeedGoes day d after answer =
    (T W : ℕ) (os : List AnOffer) (xs : List Outage) → Holds (Begun day) (begun T W os xs)
    → ((line : ℕ) → OpeningReply (open_fault (fleet_of os xs) T W) d line (enters line answer) (fleet_of os xs) T W) × Holds after (opening (open_fault (fleet_of os xs) T W) T W os xs (need d))

-- a form while no docket is open
abbrev pub BegunGoes : BegunDay → Form → Session → Result (Unit {0}) Decline → Type 0
BegunGoes day form after answer =
    (T W : ℕ) (os : List AnOffer) (xs : List Outage) → Holds (Begun day) (begun T W os xs)
    → ((line : ℕ) → BegunReply os xs form line (enters line answer) T W) × Holds after (after_begun T W os xs form)

-- a call that asks the open docket
abbrev pub AsksGoes : OpenDay → OpenDay → Call → (Meaning → ℕ → ℕ → Ledger → Type 0) → Type 0
AsksGoes old new call AnsweredSo =
    (T W : ℕ) (os : List AnOffer) (xs : List Outage) (cs : List Call) → Holds (Open old) (opened T W os xs cs)
    → AnsweredSo (fleet_of os xs) T W (ledger (fleet_of os xs) T W cs) × Holds (Open new) (opened T W os xs (cs ++ (call ∷ [])))

-- a form while the docket is open
abbrev pub DocketGoes : OpenDay → OpenDay → Form → ℕ → Reply → Type 0
DocketGoes old new form line reply =
    (T W : ℕ) (os : List AnOffer) (xs : List Outage) (cs : List Call) → Holds (Open old) (opened T W os xs cs)
    → DocketReply form line reply (fleet_of os xs) T W (ledger (fleet_of os xs) T W cs) × Holds (Open new) (with_call T W os xs cs (call_of form))

-- a form, after what the file has said
abbrev pub FormGoes : Session → Form → ℕ → Session → Reply → Type 0
FormGoes old form line new reply = (said : Said) → Holds old said → FormReply said form line reply × Holds new (after_form said form)

-- a line: what was read, and what it is answered
abbrev pub LineGoes : Session → List ℕ → ℕ → Session → Reply → Type 0
LineGoes old line number new reply =
    (said : Said) → Holds old said
    → (reading : Result (Option Form) Decline) × (told_of reading ≡ line_told line) × LineReply said reading number reply × Holds new (after_line said reading)
