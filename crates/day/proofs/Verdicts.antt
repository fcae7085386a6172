-- A verdict that is printed is judge's answer of an open docket. Assumes nothing.
use Rattle.std.proofs.Common.{◌≡◌, ℕ, Bool, true, false, cond, ℤ, Some, None, Ok, Err, Option, List, sym, subst}
use Rattle.arrayvec.specs.ArrayVec.{ArrayVec}
use Rattle.terms.specs.declared.decline.Layer.{Layer}
use Rattle.fleet.specs.Units.{Meaning}
use Rattle.fleet.specs.Rows.{Fault}
use Rattle.fleet_kinds.specs.declared.outages.Outage.{Outage}
use Rattle.reader.specs.declared.offer.Offer.{Offer as AnOffer}
use Rattle.reader.specs.declared.form.Form.{Form}
use Rattle.reader.specs.declared.form.Form.TheVariants.{Day, Offer, Out, Need, Price, Run, Mix, Supply, Show, Judge}
use Rattle.settlement.specs.declared.verdicts.Judgement.{Judgement}
use Rattle.settlement.specs.Ledger.{Ledger, Call, need, price, run, mix, fresh, ledger}
use Rattle.settlement.specs.Verdicts.{Bound}
use Rattle.replies.specs.declared.reply.Reply.{Reply}
use Rattle.replies.specs.declared.reply.Reply.TheVariants.{Nothing, No, Verdict}
use Rattle.replies.specs.declared.reply.Reply.TheVariants.{Supply as SupplyReply, Show as ShowReply}
use Rattle.day.specs.Said.{nothing, begun, opened, fleet_of}
use Rattle.day.specs.Answering.{EntersReply, supplies, SupplyReplied, ShowReplied, JudgeReplied, DocketReply, DeclinesIf, OpeningReply, BegunReply, FirstReply}
use Rattle.day.specs.Verdicts.{VerdictLaw}

abbrev IsVerdict : Reply → Type 0
IsVerdict Nothing = ⊥
IsVerdict (No d k) = ⊥
IsVerdict (SupplyReply u b l m) = ⊥
IsVerdict (ShowReply u x) = ⊥
IsVerdict (Verdict p j) = Unit {0}

module _ {P : Type 0} (pays : ArrayVec ℤ) (j : Judgement) where
  other : (r : Reply) → (Verdict pays j) ≡ r → (IsVerdict r → ⊥) → P
  other r e n = absurd (n (subst IsVerdict e tt))

  no_entering : (c : Call) (line : ℕ) (m : Meaning) (T W : ℕ) (l : Ledger) → EntersReply c line (Verdict pays j) m T W l → P
  no_entering c line m T W l (Ok x, a, e) = other Nothing e (λ x. x)
  no_entering c line m T W l (Err d, a, e) = other (No d line) e (λ x. x)

  no_supply : (u line : ℕ) (m : Meaning) (T W : ℕ) (l : Ledger) → SupplyReplied u line (Verdict pays j) m T W l → P
  no_supply u line m T W l (Ok s, a, e) = other (supplies u line (Ok s)) e (λ x. x)
  no_supply u line m T W l (Err d, a, e) = other (No d line) e (λ x. x)

  no_show : (u line : ℕ) (m : Meaning) (T W : ℕ) (l : Ledger) → ShowReplied u line (Verdict pays j) m T W l → P
  no_show u line m T W l (Ok x, old, new, a, b, e) = absurd e
  no_show u line m T W l (Err d, old, new, a, b, e) = other (No d line) e (λ x. x)

  no_choice : (b : Bool) (A B : Type 0) → (A → P) → (B → P) → cond b A B → P
  no_choice true A B f g x = f x
  no_choice false A B f g x = g x

  no_outage : (layer : Layer) (o : Option ℕ) (line : ℕ) → DeclinesIf layer o line (Verdict pays j) → P
  no_outage layer None line e = other Nothing e (λ x. x)
  no_outage layer (Some n) line e = absurd e

  no_opening : (o : Option Fault) (d : List ℤ) (line : ℕ) (m : Meaning) (T W : ℕ) → OpeningReply o d line (Verdict pays j) m T W → P
  no_opening None d line m T W a = no_entering (need d) line m T W fresh a
  no_opening (Some f) d line m T W a = absurd a

  no_begun : (os : List AnOffer) (xs : List Outage) (f : Form) (line T W : ℕ) → BegunReply os xs f line (Verdict pays j) T W → P
  no_begun os xs (Day t w) line T W a = absurd a
  no_begun os xs (Offer o) line T W a = no_choice _ _ _ (λ e. other Nothing e (λ x. x)) (λ x. absurd x) a
  no_begun os xs (Out u b c) line T W a = no_outage _ _ line a
  no_begun os xs (Need d) line T W a = no_opening _ d.items line _ T W a
  no_begun os xs (Price d n) line T W a = absurd a
  no_begun os xs (Run u x) line T W a = absurd a
  no_begun os xs (Mix u w x) line T W a = absurd a
  no_begun os xs (Supply u) line T W a = absurd a
  no_begun os xs (Show u) line T W a = absurd a
  no_begun os xs Judge line T W a = absurd a

  no_first : (f : Form) (line : ℕ) → FirstReply f line (Verdict pays j) → P
  no_first (Day t w) line a = other Nothing a (λ x. x)
  no_first (Offer o) line a = absurd a
  no_first (Out u b c) line a = absurd a
  no_first (Need d) line a = absurd a
  no_first (Price d n) line a = absurd a
  no_first (Run u x) line a = absurd a
  no_first (Mix u w x) line a = absurd a
  no_first (Supply u) line a = absurd a
  no_first (Show u) line a = absurd a
  no_first Judge line a = absurd a

judged : (line : ℕ) (pays : ArrayVec ℤ) (j : Judgement) (m : Meaning) (T W : ℕ) (l : Ledger) → JudgeReplied line (Verdict pays j) m T W l → Bound m T W l j
judged line pays j m T W l (Ok k, old, new, a, h, e) = subst (Bound m T W l) (sym e.0) h.bound
judged line pays j m T W l (Err d, old, new, a, h, e) = other pays j (No d line) e (λ x. x)

of_docket : (f : Form) (line : ℕ) (pays : ArrayVec ℤ) (j : Judgement) (m : Meaning) (T W : ℕ) (l : Ledger) → DocketReply f line (Verdict pays j) m T W l → Bound m T W l j
of_docket (Day t w) line pays j m T W l a = absurd a
of_docket (Offer o) line pays j m T W l a = absurd a
of_docket (Out u b c) line pays j m T W l a = absurd a
of_docket (Need d) line pays j m T W l a = no_entering pays j (need d.items) line m T W l a
of_docket (Price d n) line pays j m T W l a = no_entering pays j (price d n.items) line m T W l a
of_docket (Run u x) line pays j m T W l a = no_entering pays j (run u x.items 3920) line m T W l a
of_docket (Mix u w x) line pays j m T W l a = no_entering pays j (mix u w x.items) line m T W l a
of_docket (Supply u) line pays j m T W l a = no_supply pays j u line m T W l a
of_docket (Show u) line pays j m T W l a = no_show pays j u line m T W l a
of_docket Judge line pays j m T W l a = judged line pays j m T W l a

pub verdict_law : VerdictLaw
verdict_law nothing (Ok None) line pays j a = other pays j Nothing a (λ x. x)
verdict_law nothing (Ok (Some f)) line pays j a = no_first pays j f line a
verdict_law nothing (Err d) line pays j a = other pays j (No d line) a (λ x. x)
verdict_law (begun T W os xs) (Ok None) line pays j a = other pays j Nothing a (λ x. x)
verdict_law (begun T W os xs) (Ok (Some f)) line pays j a = no_begun pays j os xs f line T W a
verdict_law (begun T W os xs) (Err d) line pays j a = other pays j (No d line) a (λ x. x)
verdict_law (opened T W os xs cs) (Ok None) line pays j a = other pays j Nothing a (λ x. x)
verdict_law (opened T W os xs cs) (Ok (Some f)) line pays j a = of_docket f line pays j (fleet_of os xs) T W (ledger (fleet_of os xs) T W cs) a
verdict_law (opened T W os xs cs) (Err d) line pays j a = other pays j (No d line) a (λ x. x)
