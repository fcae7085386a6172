-- A call has one answer. Assumes nothing.
use Rattle.std.proofs.Common.{◌≡◌, ℕ, zero, suc, ◌<◌, ◌≤◌, Bool, true, false, leb, List, [], ◌∷◌, length, get_or, take, ℤ, pos, Some, None, Option, Ok, Err, Result, sym, refl, ap, ◌∙◌, subst, inl, arith}
use Rattle.std.proofs.lemmas.Bool.{leb-true}
use Rattle.terms.specs.Declines.{Says}
use Rattle.terms.specs.declared.decline.Decline.{Decline}
use Rattle.terms.specs.declared.decline.Layer.TheVariants.{Docket}
use Rattle.terms.proofs.Causes.{same_decline}
use Rattle.terms.proofs.Sums.{sum_to_same}
use Rattle.fleet.specs.Units.{Meaning}
use Rattle.fleet.specs.Rows.{Fault}
use Rattle.fleet.specs.Gains.{First}
use Rattle.fleet.proofs.Supplies.{supply_law}
use Rattle.fleet.proofs.FirstBests.{first_law}
use Rattle.settlement.specs.declared.verdicts.Judgement.{Judgement}
use Rattle.settlement.specs.declared.verdicts.Verdict.{Verdict}
use Rattle.settlement.specs.declared.verdicts.Verdict.TheVariants.{Least, Within}
use Rattle.settlement.specs.Ledger.{Ledger, Call, supply, show, judge, check, is_priced}
use Rattle.settlement.specs.Reasons.{Declined, Answered}
use Rattle.settlement.specs.Verdicts.{SaysVerdict, Exactly, Judges}
use Rattle.settlement.specs.OneAnswers.{OneAnswerLaw}
use Rattle.settlement.proofs.OneFault.{one_fault}

says_same : (f g : Fault) (d e : Decline) → f ≡ g → Says Docket f.number f.place d → Says Docket g.number g.place e → d ≡ e
says_same f g d e is s t =
    same_decline d e (s.number ∙ ap (λ (x : Fault). x.number) is ∙ sym t.number) (s.place ∙ ap (λ (x : Fault). x.place) is ∙ sym t.place)

-- two answers of the same call, where the same faults decline it
module _ {X : Type 0} (m : Meaning) (T W : ℕ) (l : Ledger) (c : Call) (Is Same : X → Type 0) (one : (x y : X) → Is x → Same y → x ≡ y) where
  same_answer : (q r : Result X Decline) → Answered (Declined m T W l c) Is q → Answered (Declined m T W l c) Same r → q ≡ r
  same_answer (Ok x) (Ok y) a b = ap Ok (one x y a.1 b.1)
  same_answer (Ok x) (Err e) a (f, h, s) = absurd (a.0 f h)
  same_answer (Err d) (Ok y) (f, h, s) b = absurd (b.0 f h)
  same_answer (Err d) (Err e) (f, h, s) (g, k, t) = ap Err (says_same f g d e (one_fault m T W l c f g h k) s t)

err_ok : {P X : Type 0} (d : Decline) (x : X) → ◌≡◌ {A = Result X Decline} (Err d) (Ok x) → P
err_ok d x e = cc

-- a list's first items --

same_front : {X : Type 0} (n : ℕ) (d : X) (xs ys : List X) → n ≤ length xs → n ≤ length ys → ((i : ℕ) → i < n → get_or xs i d ≡ get_or ys i d) → take n xs ≡ take n ys
same_front zero d xs ys h k e = refl
same_front (suc n) d [] ys h k e = absurd (omega arith)
same_front (suc n) d (x ∷ xs) [] h k e = absurd (omega arith)
same_front (suc n) d (x ∷ xs) (y ∷ ys) h k e =
    let first : x ≡ y = e 0 (omega arith) in
    let others = same_front n d xs ys (omega arith) (omega arith) (λ i lt. e (suc i) (omega arith)) in
    λ i. first i ∷ others i

-- a verdict --

-- judge is declined unless the docket is priced and the buffer long enough
no_check : (b : Bool) (n p : ℕ) (o : Option Fault) → ((f : Fault) → check b n p o ≡ Some f → ⊥) → (b ≡ true) × ((f : Fault) → o ≡ Some f → ⊥)
no_check true n p o h = (refl, h)
no_check false n p o h = absurd (h (record { number = n; place = p }) refl)

module _ (m : Meaning) (T W : ℕ) (l : Ledger) where
  judged : (old new : List ℤ) (j : Judgement) → Judges m T W l old new (Ok j) → (is_priced l.stage ≡ true) × (m.units ≤ length old)
  judged old new j h =
      let priced = no_check (is_priced l.stage) 21 0 _ (λ f e. h.answer.0 f (inl e)) in
      let room = no_check (leb m.units (length old)) 30 0 None priced.1 in
      (priced.0, leb-true m.units (length old) room.0)

  exact : (old new : List ℤ) (j : Judgement) → Judges m T W l old new (Ok j) → Exactly m T W l (Ok j)
  exact old new j h = let s = judged old new j h in h.exactly s.0 s.1

  same_verdict : (v w : Verdict) (q r : Result Judgement Decline) → Exactly m T W l q → Exactly m T W l r → SaysVerdict v q → SaysVerdict w r → v ≡ w
  same_verdict Least Least q r h k a b = refl
  same_verdict Least Within q r h k a b = absurd ((k.within b).1 (h.least a).1)
  same_verdict Within Least q r h k a b = absurd ((h.within a).1 (k.least b).1)
  same_verdict Within Within q r h k a b = refl

  module _ (old new old' new' : List ℤ) (j k : Judgement) (h : Judges m T W l old new (Ok j)) (h' : Judges m T W l old' new' (Ok k)) where
    same_pay : (u : ℕ) → u < m.units → get_or new u (pos 0) ≡ get_or new' u (pos 0)
    same_pay u lt = h.pays.pay u lt ∙ sym (h'.pays.pay u lt)

    same_judgement : j ≡ k
    same_judgement =
        let verdict = same_verdict j.verdict k.verdict (Ok j) (Ok k) (exact old new j h) (exact old' new' k h') refl refl in
        let uplift = h.pays.adds_up ∙ sum_to_same m.units _ _ same_pay ∙ sym h'.pays.adds_up in
        λ i. record {
          verdict = verdict i;
          uplift = uplift i;
          over = (h.pays.over ∙ sym h'.pays.over) i;
          gap = (h.pays.gap ∙ sym h'.pays.gap) i;
          weight = (h.pays.weight ∙ sym h'.pays.weight) i;
        }

    same_pays : take m.units new ≡ take m.units new'
    same_pays =
        same_front m.units (pos 0) new new' (subst (λ n. m.units ≤ n) (sym h.pays.long) (judged old new j h).1) (subst (λ n. m.units ≤ n) (sym h'.pays.long) (judged old' new' k h').1) same_pay

  -- an answer and a decline, or two declines
  same_decision : (n n' : ℕ) → n ≡ n' → (q r : Result Judgement Decline) → ((j k : Judgement) → q ≡ Ok j → r ≡ Ok k → q ≡ r) → Answered (Declined m T W l (judge n)) (λ _. Unit {0}) q → Answered (Declined m T W l (judge n')) (λ _. Unit {0}) r → q ≡ r
  same_decision n n' e (Ok j) (Ok k) both a b = both j k refl refl
  same_decision n n' e (Ok j) (Err d) both a (f, h, s) = absurd (a.0 f (subst (λ z. Declined m T W l (judge z) f) (sym e) h))
  same_decision n n' e (Err d) (Ok k) both (f, h, s) b = absurd (b.0 f (subst (λ z. Declined m T W l (judge z) f) e h))
  same_decision n n' e (Err c) (Err d) both (f, h, s) (g, k, t) =
      ap Err (says_same f g c d (one_fault m T W l (judge n) f g h (subst (λ z. Declined m T W l (judge z) g) (sym e) k)) s t)

  same_judge : (old new old' new' : List ℤ) (q r : Result Judgement Decline) → length old ≡ length old' → Judges m T W l old new q → Judges m T W l old' new' r → q ≡ r
  same_judge old new old' new' (Ok j) (Ok k) n h h' = ap Ok (same_judgement old new old' new' j k h h')
  same_judge old new old' new' (Ok j) (Err d) n h h' = same_decision (length old) (length old') n (Ok j) (Err d) (λ _ _ _ e. err_ok d _ e) h.answer h'.answer
  same_judge old new old' new' (Err d) r n h h' = same_decision (length old) (length old') n (Err d) r (λ _ _ e _. err_ok d _ e) h.answer h'.answer

pub one_answer : OneAnswerLaw
one_answer = record {
  enters = λ m T W l c q r h k. same_answer m T W l c (λ _. Unit {0}) (λ _. Unit {0}) (λ x y _ _. refl) q r h k;
  supplies = λ m T W l u fewer more q r h k. same_answer m T W l (supply u fewer more) _ _ (λ x y a b. supply_law (m.model u) T l.prices x y a b) q r h k;
  shows = λ m T W l u slots old new old' new' q r n h k. same_answer m T W l (show u slots (length old)) (λ _. First (m.model u) T l.prices (take T new)) (λ _. First (m.model u) T l.prices (take T new')) (λ x y _ _. refl) q r h.0 (subst (λ z. Answered (Declined m T W l (show u slots z)) (λ _. First (m.model u) T l.prices (take T new')) r) (sym n) k.0);
  shown = λ m T W l u slots old new old' new' q r h k. first_law (m.model u) T l.prices (take T new) (take T new') h.0.1 k.0.1;
  judges = same_judge;
  paid = same_pays;
}
