-- The need that opens a docket. Assumes nothing.
use Rattle.std.proofs.Common.{◌≡◌, ℕ, List, [], length, ℤ, None, Option, Result, slice_index_or, refl, sym, subst, ◌∷◌, ◌∙◌}
use Rattle.terms.specs.declared.decline.Decline.{Decline}
use Rattle.fleet.specs.Rows.{Fault}
use Rattle.fleet_kinds.specs.declared.outages.Outage.{Outage}
use Rattle.fleet_kinds.specs.declared.outages.Outages.{Outages}
use Rattle.reader.specs.declared.offer.Offer.{Offer}
use Rattle.offers.specs.declared.book.Book.{Book}
use Rattle.settlement.specs.declared.docket.Docket.{Docket}
use Rattle.fleet.specs.Units.{Meaning}
use Rattle.settlement.specs.Ledger.{Ledger, need, ledger}
use Rattle.settlement.proofs.Ledgers.{some_none}
use Rattle.settlement.specs.Calls.{Enters, open_fault}
use Rattle.settlement.specs.Follow.{Follows, GoesOn}
use Rattle.day.specs.declared.known.Known.{Known}
use Rattle.day.specs.declared.session.Session.{Session}
use Rattle.day.specs.declared.session.BegunDay.{BegunDay}
use Rattle.day.specs.declared.session.Session.TheVariants.{Open}
use Rattle.day.specs.Said.{fleet_of, opening}
use Rattle.day.specs.Lasting.{Lasting}
use Rattle.day.specs.Holding.{mean, Holds}
use Rattle.day.specs.Answering.{enters, OpeningReply}
use Rattle.day.specs.Going.{NeedGoes}

abbrev Opens : List ℤ → Session → Result (Unit {0}) Decline → ℕ → ℕ → List Offer → List Outage → Type 0
Opens d after answer T W os xs =
    ((line : ℕ) → OpeningReply (open_fault (fleet_of os xs) T W) d line (enters line answer) (fleet_of os xs) T W)
    × Holds after (opening (open_fault (fleet_of os xs) T W) T W os xs (need d))

-- what is so at the day's own numbers and lists
at_own : (day : BegunDay) (d : List ℤ) (after : Session) (answer : Result (Unit {0}) Decline) → Opens d after answer day.periods day.weight day.fleet.fleet.offers.items day.fleet.list.items → NeedGoes day d after answer
at_own day d after answer o T W os xs h =
    let os' = day.fleet.fleet.offers.items in
    let xs' = day.fleet.list.items in
    subst (λ t. Opens d after answer t W os xs) h.0
    (subst (λ w. Opens d after answer day.periods w os xs) h.1
    (subst (λ z. Opens d after answer day.periods day.weight z xs) h.2
    (subst (λ z. Opens d after answer day.periods day.weight os' z) h.3 o)))

-- nothing is known of a docket that was just opened
none_known : (m : Meaning) (T W : ℕ) (l : Ledger) (known : Known) → ((u : ℕ) → slice_index_or known.supplies u None ≡ None) → ((u : ℕ) → slice_index_or known.shows u None ≡ None) → Lasting m T W l known.supplies known.shows
none_known m T W l known a b = record {
  supply = λ u q e. some_none q (sym e ∙ a u);
  show = λ u q e. some_none q (sym e ∙ b u);
}

pub opened_so : (day : BegunDay) (d : List ℤ) (units : ℕ) (old new : Docket (Outages Book)) (known : Known) (answer : Result (Unit {0}) Decline) → units ≡ length day.fleet.fleet.offers.items → open_fault (mean day.fleet) day.periods day.weight ≡ None → Follows mean (mean day.fleet) day.periods day.weight [] old → GoesOn mean old new (need d) (Enters (need d) answer) → ((u : ℕ) → slice_index_or known.supplies u None ≡ None) → ((u : ℕ) → slice_index_or known.shows u None ≡ None) →
    NeedGoes day d (Open (record { periods = day.periods; units = units; docket = new; known = known })) answer
opened_so day d units old new known answer u free follows goes a b =
    let m = mean day.fleet in
    let g = goes m day.periods day.weight [] follows in
    let after = Open (record { periods = day.periods; units = units; docket = new; known = known }) in
    let os = day.fleet.fleet.offers.items in
    let xs = day.fleet.list.items in
    at_own day d after answer
    (subst (λ (o : Option Fault). ((line : ℕ) → OpeningReply o d line (enters line answer) m day.periods day.weight) × Holds after (opening o day.periods day.weight os xs (need d))) (sym free)
    ((λ line. (answer, g.1, refl)), (refl, u, g.0, none_known m day.periods day.weight (ledger m day.periods day.weight (need d ∷ [])) known a b)))
