-- A file has one text. Assumes nothing.
use Rattle.std.proofs.Common.{◌≡◌, ℕ, ◌+◌, Bool, true, false, cond, List, [], ◌∷◌, ◌++◌, length, take, ℤ, Some, None, Option, Ok, Err, Result, sym, ap, ◌∙◌, subst}
use Rattle.std.specs.Prelude.{nat_lt}
use Rattle.terms.specs.Declines.{Says}
use Rattle.terms.specs.declared.decline.Decline.{Decline}
use Rattle.terms.specs.declared.decline.Cause.TheVariants.{FileTooLong}
use Rattle.terms.specs.declared.decline.Layer.{Layer}
use Rattle.terms.specs.declared.decline.Layer.TheVariants.{Reader as ReaderLayer}
use Rattle.terms.specs.declared.entry.Entry.{Entry}
use Rattle.terms.proofs.Causes.{same_decline}
use Rattle.fleet.specs.Units.{Meaning}
use Rattle.fleet.specs.Rows.{Fault}
use Rattle.fleet_kinds.specs.declared.outages.Outage.{Outage}
use Rattle.reader.specs.declared.offer.Offer.{Offer as AnOffer}
use Rattle.reader.specs.declared.form.Form.{Form}
use Rattle.reader.specs.declared.form.Form.TheVariants.{Day, Offer, Out, Need, Price, Run, Mix, Supply, Show, Judge}
use Rattle.reader.proofs.OneReading.{told_law}
use Rattle.settlement.specs.declared.verdicts.Judgement.{Judgement}
use Rattle.settlement.specs.Ledger.{Ledger, Call, need, price, run, mix, fresh, ledger}
use Rattle.settlement.proofs.OneAnswer.{one_answer}
use Rattle.replies.specs.declared.reply.Reply.{Reply}
use Rattle.replies.specs.declared.reply.Reply.TheVariants.{Nothing, No, Verdict}
use Rattle.replies.specs.declared.reply.Reply.TheVariants.{Supply as SupplyReply, Show as ShowReply}
use Rattle.replies.specs.Texts.{no_text, reply_text}
use Rattle.day.specs.Cutting.{lines_of}
use Rattle.day.specs.Said.{Said, nothing, begun, opened, fleet_of, after_line}
use Rattle.day.specs.Answering.{Declines, DeclinesIf, enters, EntersReply, supplies, SupplyReplied, ShownAs, ShowReplied, JudgedAs, JudgeReplied, DocketReply, OpeningReply, BegunReply, FirstReply, FormReply, LineReply}
use Rattle.day.specs.Settling.{TextOfLines, OneTextLaw}

-- declines of the file's own --

-- a record, so that its parts are found
record NoOf (layer : Layer) (number place line : ℕ) (r : Reply) : Type 0 where
  decline : Decline
  says : Says layer number place decline
  is : r ≡ No decline line

no_of : (layer : Layer) (number place line : ℕ) (r : Reply) → Declines layer number place line r → NoOf layer number place line r
no_of layer number place line Nothing h = absurd h
no_of layer number place line (No d k) h = record { decline = d; says = h.0; is = ap (No d) h.1 }
no_of layer number place line (SupplyReply u b l m) h = absurd h
no_of layer number place line (ShowReply u x) h = absurd h
no_of layer number place line (Verdict p j) h = absurd h

declined_same : (layer : Layer) (number place line : ℕ) (q r : Reply) → Declines layer number place line q → Declines layer number place line r → q ≡ r
declined_same layer number place line q r h k =
    let a = no_of layer number place line q h in
    let b = no_of layer number place line r k in
    let d = same_decline a.decline b.decline (a.says.number ∙ sym b.says.number) (a.says.place ∙ sym b.says.place) in
    a.is ∙ ap (λ z. No z line) d ∙ sym b.is

both : (x q r : Reply) → q ≡ x → r ≡ x → q ≡ r
both x q r h k = h ∙ sym k

chosen_same : {T : Type 0} (b : Bool) (P Q : T → Type 0) (q r : T) → (P q → P r → q ≡ r) → (Q q → Q r → q ≡ r) → cond b (P q) (Q q) → cond b (P r) (Q r) → q ≡ r
chosen_same true P Q q r f g h k = f h k
chosen_same false P Q q r f g h k = g h k

outage_same : (layer : Layer) (o : Option ℕ) (line : ℕ) (q r : Reply) → DeclinesIf layer o line q → DeclinesIf layer o line r → q ≡ r
outage_same layer None line q r h k = both Nothing q r h k
outage_same layer (Some n) line q r h k = declined_same layer n 0 line q r h k

-- the docket's answers --

entered_same : (c : Call) (line : ℕ) (q r : Reply) (m : Meaning) (T W : ℕ) (l : Ledger) → EntersReply c line q m T W l → EntersReply c line r m T W l → q ≡ r
entered_same c line q r m T W l (a, h, e) (b, k, f) = e ∙ ap (enters line) (one_answer.enters m T W l c a b h k) ∙ sym f

supply_same : (u line : ℕ) (q r : Reply) (m : Meaning) (T W : ℕ) (l : Ledger) → SupplyReplied u line q m T W l → SupplyReplied u line r m T W l → q ≡ r
supply_same u line q r m T W l (a, h, e) (b, k, f) = e ∙ ap (supplies u line) (one_answer.supplies m T W l u 3920 3920 a b h k) ∙ sym f

err_ok : {P X : Type 0} (d : Decline) (x : X) → ◌≡◌ {A = Result X Decline} (Err d) (Ok x) → P
err_ok d x e = cc

same_err : {X : Type 0} (c d : Decline) → ◌≡◌ {A = Result X Decline} (Err c) (Err d) → c ≡ d
same_err c d e = cc

shown_ok : (u T line : ℕ) (new : List Entry) (x : Unit {0}) (r : Reply) → ShownAs u T line new (Ok x) r → r ≡ ShowReply u (record { items = take T new })
shown_ok u T line new x Nothing h = absurd h
shown_ok u T line new x (No d k) h = absurd h
shown_ok u T line new x (SupplyReply v b l m) h = absurd h
shown_ok u T line new x (ShowReply v xs) h = λ i. ShowReply (h.0 i) (record { items = h.1 i })
shown_ok u T line new x (Verdict p j) h = absurd h

show_same : (u line : ℕ) (q r : Reply) (m : Meaning) (T W : ℕ) (l : Ledger) → ShowReplied u line q m T W l → ShowReplied u line r m T W l → q ≡ r
show_same u line q r m T W l (Ok x, old, new, n, h, e) (Ok y, old', new', n', k, f) =
    let es = one_answer.shown m T W l u 3920 old new old' new' x y h k in
    shown_ok u T line new x q e ∙ ap (λ z. ShowReply u (record { items = z })) es ∙ sym (shown_ok u T line new' y r f)
show_same u line q r m T W l (Ok x, old, new, n, h, e) (Err d, old', new', n', k, f) =
    err_ok d x (sym (one_answer.shows m T W l u 3920 old new old' new' (Ok x) (Err d) (n ∙ sym n') h k))
show_same u line q r m T W l (Err d, old, new, n, h, e) (Ok x, old', new', n', k, f) =
    err_ok d x (one_answer.shows m T W l u 3920 old new old' new' (Err d) (Ok x) (n ∙ sym n') h k)
show_same u line q r m T W l (Err c, old, new, n, h, e) (Err d, old', new', n', k, f) =
    e ∙ ap (λ z. No z line) (same_err c d (one_answer.shows m T W l u 3920 old new old' new' (Err c) (Err d) (n ∙ sym n') h k)) ∙ sym f

judged_ok : (units line : ℕ) (new : List ℤ) (j : Judgement) (r : Reply) → JudgedAs units line new (Ok j) r → r ≡ Verdict (record { items = take units new }) j
judged_ok units line new j Nothing h = absurd h
judged_ok units line new j (No d k) h = absurd h
judged_ok units line new j (SupplyReply v b l m) h = absurd h
judged_ok units line new j (ShowReply v xs) h = absurd h
judged_ok units line new j (Verdict p k) h = λ i. Verdict (record { items = h.1 i }) (h.0 i)

same_ok : {X : Type 0} (x y : X) → ◌≡◌ {A = Result X Decline} (Ok x) (Ok y) → x ≡ y
same_ok x y e = cc

judge_same : (line : ℕ) (q r : Reply) (m : Meaning) (T W : ℕ) (l : Ledger) → JudgeReplied line q m T W l → JudgeReplied line r m T W l → q ≡ r
judge_same line q r m T W l (Ok j, old, new, n, h, e) (Ok k, old', new', n', h', e') =
    let judgement = same_ok j k (one_answer.judges m T W l old new old' new' (Ok j) (Ok k) (n ∙ sym n') h h') in
    let pays = one_answer.paid m T W l old new old' new' j k h h' in
    judged_ok m.units line new j q e ∙ (λ i. Verdict (record { items = pays i }) (judgement i)) ∙ sym (judged_ok m.units line new' k r e')
judge_same line q r m T W l (Ok j, old, new, n, h, e) (Err d, old', new', n', h', e') =
    err_ok d j (sym (one_answer.judges m T W l old new old' new' (Ok j) (Err d) (n ∙ sym n') h h'))
judge_same line q r m T W l (Err d, old, new, n, h, e) (Ok k, old', new', n', h', e') =
    err_ok d k (one_answer.judges m T W l old new old' new' (Err d) (Ok k) (n ∙ sym n') h h')
judge_same line q r m T W l (Err c, old, new, n, h, e) (Err d, old', new', n', h', e') =
    e ∙ ap (λ z. No z line) (same_err c d (one_answer.judges m T W l old new old' new' (Err c) (Err d) (n ∙ sym n') h h')) ∙ sym e'

-- lines --

docket_same : (f : Form) (line : ℕ) (q r : Reply) (m : Meaning) (T W : ℕ) (l : Ledger) → DocketReply f line q m T W l → DocketReply f line r m T W l → q ≡ r
docket_same (Day t w) line q r m T W l h k = declined_same _ _ _ line q r h k
docket_same (Offer o) line q r m T W l h k = declined_same _ _ _ line q r h k
docket_same (Out u a b) line q r m T W l h k = declined_same _ _ _ line q r h k
docket_same (Need d) line q r m T W l h k = entered_same (need d.items) line q r m T W l h k
docket_same (Price d n) line q r m T W l h k = entered_same (price d n.items) line q r m T W l h k
docket_same (Run u x) line q r m T W l h k = entered_same (run u x.items 3920) line q r m T W l h k
docket_same (Mix u w x) line q r m T W l h k = entered_same (mix u w x.items) line q r m T W l h k
docket_same (Supply u) line q r m T W l h k = supply_same u line q r m T W l h k
docket_same (Show u) line q r m T W l h k = show_same u line q r m T W l h k
docket_same Judge line q r m T W l h k = judge_same line q r m T W l h k

opening_same : (o : Option Fault) (d : List ℤ) (line : ℕ) (q r : Reply) (m : Meaning) (T W : ℕ) → OpeningReply o d line q m T W → OpeningReply o d line r m T W → q ≡ r
opening_same None d line q r m T W h k = entered_same (need d) line q r m T W fresh h k
opening_same (Some f) d line q r m T W h k = declined_same _ _ _ line q r h k

begun_same : (os : List AnOffer) (xs : List Outage) (f : Form) (line : ℕ) (q r : Reply) (T W : ℕ) → BegunReply os xs f line q T W → BegunReply os xs f line r T W → q ≡ r
begun_same os xs (Day t w) line q r T W h k = declined_same _ _ _ line q r h k
begun_same os xs (Offer o) line q r T W h k = chosen_same (nat_lt (length os) 64) (λ z. z ≡ Nothing) (Declines ReaderLayer 10 1 line) q r (both Nothing q r) (declined_same ReaderLayer 10 1 line q r) h k
begun_same os xs (Out u a b) line q r T W h k = outage_same _ _ line q r h k
begun_same os xs (Need d) line q r T W h k = opening_same _ d.items line q r _ T W h k
begun_same os xs (Price d n) line q r T W h k = declined_same _ _ _ line q r h k
begun_same os xs (Run u x) line q r T W h k = declined_same _ _ _ line q r h k
begun_same os xs (Mix u w x) line q r T W h k = declined_same _ _ _ line q r h k
begun_same os xs (Supply u) line q r T W h k = declined_same _ _ _ line q r h k
begun_same os xs (Show u) line q r T W h k = declined_same _ _ _ line q r h k
begun_same os xs Judge line q r T W h k = declined_same _ _ _ line q r h k

first_same : (f : Form) (line : ℕ) (q r : Reply) → FirstReply f line q → FirstReply f line r → q ≡ r
first_same (Day t w) line q r h k = both Nothing q r h k
first_same (Offer o) line q r h k = declined_same _ _ _ line q r h k
first_same (Out u a b) line q r h k = declined_same _ _ _ line q r h k
first_same (Need d) line q r h k = declined_same _ _ _ line q r h k
first_same (Price d n) line q r h k = declined_same _ _ _ line q r h k
first_same (Run u x) line q r h k = declined_same _ _ _ line q r h k
first_same (Mix u w x) line q r h k = declined_same _ _ _ line q r h k
first_same (Supply u) line q r h k = declined_same _ _ _ line q r h k
first_same (Show u) line q r h k = declined_same _ _ _ line q r h k
first_same Judge line q r h k = declined_same _ _ _ line q r h k

form_same : (s : Said) (f : Form) (line : ℕ) (q r : Reply) → FormReply s f line q → FormReply s f line r → q ≡ r
form_same nothing f line q r h k = first_same f line q r h k
form_same (begun T W os xs) f line q r h k = begun_same os xs f line q r T W h k
form_same (opened T W os xs cs) f line q r h k = docket_same f line q r (fleet_of os xs) T W (ledger (fleet_of os xs) T W cs) h k

line_same : (s : Said) (reading : Result (Option Form) Decline) (line : ℕ) (q r : Reply) → LineReply s reading line q → LineReply s reading line r → q ≡ r
line_same s (Ok None) line q r h k = both Nothing q r h k
line_same s (Ok (Some f)) line q r h k = form_same s f line q r h k
line_same s (Err d) line q r h k = both (No d line) q r h k

-- the text --

answered_same : (lines : List (List ℕ)) (s : Said) (n : ℕ) (t u : List ℕ) → TextOfLines lines s n t → TextOfLines lines s n u → t ≡ u
answered_same [] s n t u h k = h ∙ sym k
answered_same (line ∷ lines) s n t u h k =
    let reading = told_law h.reading k.reading (h.read ∙ sym k.read) in
    let reply = line_same s h.reading n h.reply k.reply h.answered (subst (λ z. LineReply s z n k.reply) (sym reading) k.answered) in
    let rest = answered_same lines (after_line s h.reading) (n + 1) h.rest k.rest h.others (subst (λ z. TextOfLines lines (after_line s z) (n + 1) k.rest) (sym reading) k.others) in
    h.text_is ∙ (λ i. reply_text (reply i) ++ rest i) ∙ sym k.text_is

pub one_text : OneTextLaw
one_text file t u h k =
    chosen_same (nat_lt 65536 (length file)) (λ z. z ≡ no_text (record { cause = FileTooLong; place = 1 }) 1) (λ z. TextOfLines (lines_of file) nothing 1 z) t u (λ a b. a ∙ sym b) (answered_same (lines_of file) nothing 1 t u) h k
