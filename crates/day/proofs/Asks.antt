-- Calls of the open docket, carried on by the session. Assumes nothing.
use Rattle.std.proofs.Common.{◌≡◌, ℕ, true, List, [], ◌∷◌, ◌++◌, length, take, ℤ, Some, None, Ok, Err, Option, Result, slice_index_or, refl, sym, ap, ◌∙◌, subst, inl, inr}
use Rattle.terms.specs.declared.decline.Decline.{Decline}
use Rattle.terms.specs.declared.entry.Entry.{Entry}
use Rattle.fleet.specs.Units.{Meaning}
use Rattle.fleet.specs.Rows.{Fault}
use Rattle.fleet_kinds.specs.declared.outages.Outage.{Outage}
use Rattle.fleet_kinds.specs.declared.outages.Outages.{Outages}
use Rattle.reader.specs.declared.offer.Offer.{Offer}
use Rattle.offers.specs.declared.book.Book.{Book}
use Rattle.settlement.specs.declared.docket.Docket.{Docket}
use Rattle.settlement.specs.Ledger.{Ledger, Call, supply, show, is_priced, held_back, unless, ledger}
use Rattle.fleet.specs.Gains.{First}
use Rattle.settlement.specs.Reasons.{Declined, Answered}
use Rattle.settlement.specs.Calls.{Enters, Supplies, Shows}
use Rattle.settlement.specs.Follow.{Follows, SheetFollows, GoesOn}
use Rattle.settlement.proofs.Ledgers.{more}
use Rattle.replies.specs.declared.reply.Reply.{Reply}
use Rattle.day.specs.declared.known.Known.{Known}
use Rattle.day.specs.declared.session.OpenDay.{OpenDay}
use Rattle.day.specs.declared.session.Session.TheVariants.{Open}
use Rattle.day.specs.Said.{fleet_of, opened}
use Rattle.day.specs.Lasting.{lasts, AddsAt, ShowIs, ShownSo, Lasting}
use Rattle.day.specs.Holding.{mean, Holds}
use Rattle.day.specs.Answering.{enters, EntersReply, supplies, SupplyReplied, ShowReplied}
use Rattle.day.specs.Going.{AsksGoes}
use Rattle.day.proofs.Lasts.{lasting_more, supply_priced, show_priced}

-- a call that the docket goes on with
pub goes : (day new : OpenDay) (call : Call) (Says : Meaning → ℕ → ℕ → Ledger → Type 0) → GoesOn mean day.docket new.docket call Says → new.periods ≡ day.periods → new.units ≡ day.units → new.known ≡ day.known →
    (T W : ℕ) (os : List Offer) (xs : List Outage) (cs : List Call) → Holds (Open day) (opened T W os xs cs) → Says (fleet_of os xs) T W (ledger (fleet_of os xs) T W cs) × Holds (Open new) (opened T W os xs (cs ++ (call ∷ [])))
goes day new call Says g p u k T W os xs cs h =
    let m = fleet_of os xs in
    let f = g m T W cs h.2 in
    let last = lasting_more m T W cs call day.known.supplies day.known.shows h.3 in
    (f.1, (p ∙ h.0, u ∙ h.1, f.0, subst (λ z. Lasting m T W (ledger m T W (cs ++ (call ∷ []))) z.supplies z.shows) (sym k) last))

-- need, price, run and mix
pub entering : (day : OpenDay) (docket : Docket (Outages Book)) (call : Call) (q : Result (Unit {0}) Decline) (line : ℕ) (r : Reply) → GoesOn mean day.docket docket call (Enters call q) → r ≡ enters line q →
    (T W : ℕ) (os : List Offer) (xs : List Outage) (cs : List Call) → Holds (Open day) (opened T W os xs cs)
    → EntersReply call line r (fleet_of os xs) T W (ledger (fleet_of os xs) T W cs) × Holds (Open (record { periods = day.periods; units = day.units; docket = docket; known = day.known })) (opened T W os xs (cs ++ (call ∷ [])))
entering day docket call q line r g e T W os xs cs h =
    let k = goes day (record { periods = day.periods; units = day.units; docket = docket; known = day.known }) call (Enters call q) g refl refl refl T W os xs cs h in
    ((q, k.0, e), k.1)

-- a call that asks leaves the ledger as it is, whether the docket is asked or not
same_ledger : (m : Meaning) (T W : ℕ) (l : Ledger) (o : Option Fault) → unless m T W o l l ≡ l
same_ledger m T W l None = refl
same_ledger m T W l (Some f) = refl

follows_same : (m : Meaning) (T W : ℕ) (cs : List Call) (c : Call) (d : Docket (Outages Book)) → ledger m T W (cs ++ (c ∷ [])) ≡ ledger m T W cs → Follows mean m T W cs d → Follows mean m T W (cs ++ (c ∷ [])) d
follows_same m T W cs c d e f = record { fleet_is = f.fleet_is; periods_are = f.periods_are; weight_is = f.weight_is; sheet_is = subst (λ l. SheetFollows m T l d.sheet) (sym e) f.sheet_is }

-- supply --

pub supply_known : (day : OpenDay) (u line : ℕ) (q : Result (ℤ × ℤ × ℤ) Decline) (r : Reply) → slice_index_or day.known.supplies u None ≡ Some q → r ≡ supplies u line q → AsksGoes day day (supply u 3920 3920) (SupplyReplied u line r)
supply_known day u line q r e is T W os xs cs h =
    let m = fleet_of os xs in
    let l = ledger m T W cs in
    let c = supply u 3920 3920 in
    let same = more m T W cs c ∙ same_ledger m T W l (held_back m T W l c) in
    let k = h.3.supply u q e in
    ((q, k.1, is), (h.0, h.1, follows_same m T W cs c day.docket same h.2, lasting_more m T W cs c day.known.supplies day.known.shows h.3))

pub supply_asked : (day : OpenDay) (known : Known) (u line : ℕ) (q : Result (ℤ × ℤ × ℤ) Decline) (r : Reply) → GoesOn mean day.docket day.docket (supply u 3920 3920) (Supplies u 3920 3920 q) → AddsAt u q day.known.supplies known.supplies → known.shows ≡ day.known.shows → r ≡ supplies u line q →
    AsksGoes day (record { periods = day.periods; units = day.units; docket = day.docket; known = known }) (supply u 3920 3920) (SupplyReplied u line r)
supply_asked day known u line q r g adds same is T W os xs cs h =
    let m = fleet_of os xs in
    let l = ledger m T W cs in
    let c = supply u 3920 3920 in
    let f = g m T W cs h.2 in
    let last : Lasting m T W l known.supplies known.shows =
    record {
      supply = λ v p e.
          elim (adds v p e) [
            | inl old ↦ h.3.supply v p old
            | inr new ↦
                let a : (is_priced l.stage ≡ true) × Supplies u 3920 3920 q m T W l = (supply_priced m T W l u q f.1 new.2, f.1) in
                subst (λ w. (is_priced l.stage ≡ true) × Supplies w 3920 3920 p m T W l) (sym new.0) (subst (λ z. (is_priced l.stage ≡ true) × Supplies u 3920 3920 z m T W l) (sym new.1) a)
          ];
      show = λ v p e. h.3.show v p (sym (ap (λ z. slice_index_or z v None) same) ∙ e);
    } in
    ((q, f.1, is), (h.0, h.1, f.0, lasting_more m T W cs c known.supplies known.shows last))

-- show --

show_is_priced : (m : Meaning) (T W : ℕ) (l : Ledger) (u : ℕ) (q : Result (List Entry) Decline) → ShowIs u q m T W l → lasts q ≡ true → is_priced l.stage ≡ true
show_is_priced m T W l u (Ok es) h e = show_priced m T W l u 48 es es (Ok tt) h.1 refl
show_is_priced m T W l u (Err d) h e = show_priced m T W l u 48 h.0 h.0 (Err d) h.2 e

show_answer : (m : Meaning) (T W : ℕ) (l : Ledger) (u line : ℕ) (q : Result (List Entry) Decline) (r : Reply) → ShowIs u q m T W l → ShownSo u T line q r → ShowReplied u line r m T W l
show_answer m T W l u line (Ok es) r h s = (Ok tt, es, es, h.0, h.1, s)
show_answer m T W l u line (Err d) r h s = (Err d, h.0, h.0, h.1, h.2, s)

pub show_known : (day : OpenDay) (u line : ℕ) (q : Result (List Entry) Decline) (r : Reply) → slice_index_or day.known.shows u None ≡ Some q → ShownSo u day.periods line q r → AsksGoes day day (show u 3920 48) (ShowReplied u line r)
show_known day u line q r e is T W os xs cs h =
    let m = fleet_of os xs in
    let l = ledger m T W cs in
    let c = show u 3920 48 in
    let same = more m T W cs c ∙ same_ledger m T W l (held_back m T W l c) in
    let k = h.3.show u q e in (
      show_answer m T W l u line q r k.1 (subst (λ n. ShownSo u n line q r) h.0 is),
      (h.0, h.1, follows_same m T W cs c day.docket same h.2, lasting_more m T W cs c day.known.supplies day.known.shows h.3),
    )

pub show_asked : (day : OpenDay) (known : Known) (u line : ℕ) (q : Result (List Entry) Decline) (r : Reply) → GoesOn mean day.docket day.docket (show u 3920 48) (ShowIs u q) → AddsAt u q day.known.shows known.shows → known.supplies ≡ day.known.supplies → ShownSo u day.periods line q r →
    AsksGoes day (record { periods = day.periods; units = day.units; docket = day.docket; known = known }) (show u 3920 48) (ShowReplied u line r)
show_asked day known u line q r g adds same is T W os xs cs h =
    let m = fleet_of os xs in
    let l = ledger m T W cs in
    let c = show u 3920 48 in
    let f = g m T W cs h.2 in
    let last : Lasting m T W l known.supplies known.shows =
    record {
      supply = λ v p e. h.3.supply v p (sym (ap (λ z. slice_index_or z v None) same) ∙ e);
      show = λ v p e.
          elim (adds v p e) [
            | inl old ↦ h.3.show v p old
            | inr new ↦
                let a : (is_priced l.stage ≡ true) × ShowIs u q m T W l = (show_is_priced m T W l u q f.1 new.2, f.1) in
                subst (λ w. (is_priced l.stage ≡ true) × ShowIs w p m T W l) (sym new.0) (subst (λ z. (is_priced l.stage ≡ true) × ShowIs u z m T W l) (sym new.1) a)
          ];
    } in
    (show_answer m T W l u line q r f.1 (subst (λ n. ShownSo u n line q r) h.0 is), (h.0, h.1, f.0, lasting_more m T W cs c known.supplies known.shows last))

-- a show writes a whole buffer, or leaves it
pub shows_written : (d : Docket (Outages Book)) (u slots : ℕ) (old new : List Entry) → slots ≡ 3920 → length old ≡ 48 → length new ≡ 48 → GoesOn mean d d (show u slots (length old)) (Shows u slots old new (Ok tt)) → GoesOn mean d d (show u 3920 48) (ShowIs u (Ok new))
shows_written d u slots old new s a b g m T W cs f =
    let k = g m T W cs f in
    let l = ledger m T W cs in
    let first : (n r : ℕ) → Type 0 = λ n r. Answered (Declined m T W l (show u n r)) (λ (x : Unit {0}). First (m.model u) T l.prices (take T new)) (Ok tt) in
    let calls : (n r : ℕ) → Type 0 = λ n r. Follows mean m T W (cs ++ (show u n r ∷ [])) d in (
      subst (λ n. calls n 48) s (subst (calls slots) a k.0),
      (b, (subst (λ n. first n (length new)) s (subst (first slots) (a ∙ sym b) k.1.0), refl)),
    )

pub shows_declined : (d : Docket (Outages Book)) (u slots : ℕ) (old new : List Entry) (e : Decline) → slots ≡ 3920 → length old ≡ 48 → GoesOn mean d d (show u slots (length old)) (Shows u slots old new (Err e)) → GoesOn mean d d (show u 3920 48) (ShowIs u (Err e))
shows_declined d u slots old new e s a g m T W cs f =
    let k = g m T W cs f in
    let l = ledger m T W cs in
    let first : (n r : ℕ) → Type 0 = λ n r. Answered {X = Unit {0}} (Declined m T W l (show u n r)) (λ x. First (m.model u) T l.prices (take T new)) (Err e) in
    let calls : (n r : ℕ) → Type 0 = λ n r. Follows mean m T W (cs ++ (show u n r ∷ [])) d in (
      subst (λ n. calls n 48) s (subst (calls slots) a k.0),
      (old, a, (subst (λ n. first n (length old)) s k.1.0, refl)),
    )
