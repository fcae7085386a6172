-- A list of requests is settled in one way. Assumes nothing.
use Rattle.std.proofs.Common.{◌≡◌, ℕ, ◌+◌, ◌<◌, List, [], ◌∷◌, ◌++◌, length, take, drop, ℤ, Some, None, Ok, Err, Option, Result, sym, refl, ap, ◌∙◌, subst}
use Rattle.std.proofs.lemmas.List.{length-append, take-append-drop, ext_get_or}
use Rattle.terms.specs.declared.decline.Decline.{Decline}
use Rattle.terms.specs.declared.entry.Entry.{Entry}
use Rattle.terms.proofs.Causes.{same_decline}
use Rattle.fleet.specs.declared.scores.Gain.{Gain}
use Rattle.fleet.specs.Scores.{FewerLots, MoreLots}
use Rattle.fleet.specs.Units.{Meaning}
use Rattle.fleet.specs.Rows.{Fault}
use Rattle.settlement.specs.declared.verdicts.Judgement.{Judgement}
use Rattle.settlement.specs.Ledger.{Ledger, Call, need, price, run, mix, fresh, step, ledger}
use Rattle.settlement.specs.Calls.{Shows, WorkTable, open_fault}
use Rattle.settlement.specs.Verdicts.{Judges}
use Rattle.settlement.proofs.OneAnswer.{one_answer}
use Rattle.requests.specs.declared.request.Request.{Request}
use Rattle.requests.specs.declared.request.Request.TheVariants.{Need, Price, Run, Mix, Supply, Show, Judge}
use Rattle.requests.specs.declared.request.Answer.{Answer}
use Rattle.requests.specs.declared.request.Answer.TheVariants.{Entered, Shown, Judged}
use Rattle.requests.specs.Requests.{Shared, called_by, saying, supplied, lent, Lent, EnteredBy, RunBy, SupplyBy, ShowBy, JudgeBy, RequestAnswered}
use Rattle.requests.specs.Settling.{SameLengths, calls_of, Through, Written, Settles, SettleAnswer}
use Rattle.requests.specs.OneSettlement.{Alike, OneSettlementLaw}
use Rattle.requests.proofs.Goings.{called_same}

-- lists with one front and one rest
same_list : {X : Type 0} (n : ℕ) (xs ys : List X) → take n xs ≡ take n ys → drop n xs ≡ drop n ys → xs ≡ ys
same_list n xs ys front rest = sym (take-append-drop n xs) ∙ (λ i. front i ++ rest i) ∙ take-append-drop n ys

-- a table of which a part is lent keeps its length
lent_long : {X Y : Type 0} (k : ℕ) (q : Result Y Decline) (old new : List X) → Lent k (λ a b. WorkTable a b q) old new → length new ≡ length old
lent_long k q old new h =
    ap length h.2
    ∙ length-append h.0 (drop k old)
    ∙ ap (λ n. n + length (drop k old)) h.1.long
    ∙ sym (length-append (take k old) (drop k old))
    ∙ ap length (take-append-drop k old)

ok_err : {P X : Type 0} (x : X) (d : Decline) → ◌≡◌ {A = Result X Decline} (Ok x) (Err d) → P
ok_err x d e = cc

-- at what they become, where that is what was so
alike_at : (s s' t t' : Shared) → t ≡ s → t' ≡ s' → Alike s s' → Alike t t'
alike_at s s' t t' e e' al = subst (λ x. Alike x t') (sym e) (subst (Alike s) (sym e') al)

module _ (m : Meaning) (T W : ℕ) (l : Ledger) where
  entered_one : (c : Call) (r r' : Result Answer Decline) → EnteredBy c r m T W l → EnteredBy c r' m T W l → r ≡ r'
  entered_one c r r' h h' = h.2 ∙ ap (saying (λ _. Entered)) (one_answer.enters m T W l c h.0 h'.0 h.1 h'.1) ∙ sym h'.2

  -- what a show makes of its buffer
  shown_parts : (u k : ℕ) (old new new' : List Entry) (q q' : Result (Unit {0}) Decline) → q ≡ q' → Shows u k old new q m T W l → Shows u k old new' q' m T W l → new ≡ new'
  shown_parts u k old new new' (Ok x) (Ok y) e h h' = same_list T new new' (one_answer.shown m T W l u k old new old new' x y h h') (h.1 ∙ sym h'.1)
  shown_parts u k old new new' (Ok x) (Err d) e h h' = ok_err x d e
  shown_parts u k old new new' (Err d) (Ok x) e h h' = ok_err x d (sym e)
  shown_parts u k old new new' (Err d) (Err d') e h h' = h.1 ∙ sym h'.1

  -- and a judge of its own
  judged_parts : (old new new' : List ℤ) (q q' : Result Judgement Decline) → q ≡ q' → Judges m T W l old new q → Judges m T W l old new' q' → new ≡ new'
  judged_parts old new new' (Ok x) (Ok y) e h h' = same_list m.units new new' (one_answer.paid m T W l old new old new' x y h h') (h.pays.past ∙ sym h'.pays.past)
  judged_parts old new new' (Ok x) (Err d) e h h' = ok_err x d e
  judged_parts old new new' (Err d) (Ok x) e h h' = ok_err x d (sym e)
  judged_parts old new new' (Err d) (Err d') e h h' = h.kept ∙ sym h'.kept

  judged_one : (old new new' : List ℤ) (q q' : Result Judgement Decline) → Judges m T W l old new q → Judges m T W l old new' q' → (q ≡ q') × (new ≡ new')
  judged_one old new new' q q' h h' = let e = one_answer.judges m T W l old new old new' q q' refl h h' in (e, judged_parts old new new' q q' e h h')

  -- a request --

  run_one : (u : ℕ) (es : List Entry) (k : ℕ) (a a' b b' : List (Option Gain)) (r r' : Result Answer Decline) → RunBy u es k a b r m T W l → RunBy u es k a' b' r' m T W l → (r ≡ r') × (length b ≡ length a) × (length b' ≡ length a')
  run_one u es k a a' b b' r r' h h' =
      (h.2 ∙ ap (saying (λ _. Entered)) (one_answer.enters m T W l (run u es k) h.0 h'.0 h.1 h'.1) ∙ sym h'.2, lent_long k h.0 a b h.3, lent_long k h'.0 a' b' h'.3)

  supply_one : (u j k : ℕ) (a a' b b' : List (Option FewerLots)) (c c' d d' : List (Option MoreLots)) (r r' : Result Answer Decline) → SupplyBy u j k a b c d r m T W l → SupplyBy u j k a' b' c' d' r' m T W l → (r ≡ r') × (length b ≡ length a) × (length b' ≡ length a') × (length d ≡ length c) × (length d' ≡ length c')
  supply_one u j k a a' b b' c c' d d' r r' h h' = (
    h.2 ∙ ap (saying supplied) (one_answer.supplies m T W l u j k h.0 h'.0 h.1 h'.1) ∙ sym h'.2,
    lent_long j h.0 a b h.3,
    lent_long j h'.0 a' b' h'.3,
    lent_long k h.0 c d h.4,
    lent_long k h'.0 c' d' h'.4,
  )

  show_one : (u k room : ℕ) (a a' b b' : List (Option Gain)) (old new new' : List Entry) (r r' : Result Answer Decline) → ShowBy u k room a b old new r m T W l → ShowBy u k room a' b' old new' r' m T W l → (r ≡ r') × (length b ≡ length a) × (length b' ≡ length a') × (new ≡ new')
  show_one u k room a a' b b' old new new' r r' h h' =
      let e = one_answer.shows m T W l u k (take room old) h.3.0 (take room old) h'.3.0 h.0 h'.0 refl h.3.1 h'.3.1 in (
        h.1 ∙ ap (saying (λ _. Shown)) e ∙ sym h'.1,
        lent_long k h.0 a b h.2,
        lent_long k h'.0 a' b' h'.2,
        h.3.2 ∙ ap (λ xs. xs ++ drop room old) (shown_parts u k (take room old) h.3.0 h'.3.0 h.0 h'.0 e h.3.1 h'.3.1) ∙ sym h'.3.2,
      )

  judge_one : (room : ℕ) (old new new' : List ℤ) (r r' : Result Answer Decline) → JudgeBy room old new r m T W l → JudgeBy room old new' r' m T W l → (r ≡ r') × (new ≡ new')
  judge_one room old new new' r r' h h' =
      let one = judged_one (take room old) h.2.0 h'.2.0 h.0 h'.0 h.2.1 h'.2.1 in
      (h.1 ∙ ap (saying Judged) one.0 ∙ sym h'.1, h.2.2 ∙ ap (λ xs. xs ++ drop room old) one.1 ∙ sym h'.2.2)

  request_one : (s s' t t' : Shared) (q : Request) (r r' : Result Answer Decline) → Alike s s' → RequestAnswered q s t r m T W l → RequestAnswered q s' t' r' m T W l → (r ≡ r') × Alike t t'
  request_one s s' t t' (Need xs) r r' al h h' = (entered_one (need xs.now) r r' h.0 h'.0, alike_at s s' t t' h.1 h'.1 al)
  request_one s s' t t' (Price d ns) r r' al h h' = (entered_one (price d ns.now) r r' h.0 h'.0, alike_at s s' t t' h.1 h'.1 al)
  request_one s s' t t' (Mix u w es) r r' al h h' = (entered_one (mix u w es.now) r r' h.0 h'.0, alike_at s s' t t' h.1 h'.1 al)
  request_one s s' t t' (Run u es slots) r r' al h h' =
      let same = subst (λ n. RunBy u es.now (lent slots n) s'.gains t'.gains r' m T W l) (sym al.gains) h'.0 in
      let one = run_one u es.now (lent slots (length s.gains)) s.gains s'.gains t.gains t'.gains r r' h.0 same in
      (one.0, alike_at _ _ t t' h.1 h'.1 (record { gains = one.1 ∙ al.gains ∙ sym one.2; fewer = al.fewer; more = al.more; schedule = al.schedule; pays = al.pays }))
  request_one s s' t t' (Supply u fewer more) r r' al h h' =
      let first = subst (λ n. SupplyBy u (lent fewer n) (lent more (length s'.more)) s'.fewer t'.fewer s'.more t'.more r' m T W l) (sym al.fewer) h'.0 in
      let same = subst (λ n. SupplyBy u (lent fewer (length s.fewer)) (lent more n) s'.fewer t'.fewer s'.more t'.more r' m T W l) (sym al.more) first in
      let one = supply_one u (lent fewer (length s.fewer)) (lent more (length s.more)) s.fewer s'.fewer t.fewer t'.fewer s.more s'.more t.more t'.more r r' h.0 same in
      (one.0, alike_at _ _ t t' h.1 h'.1 (record { gains = al.gains; fewer = one.1 ∙ al.fewer ∙ sym one.2; more = one.3 ∙ al.more ∙ sym one.4; schedule = al.schedule; pays = al.pays }))
  request_one s s' t t' (Show u slots room) r r' al h h' =
      let first = subst (λ n. ShowBy u (lent slots n) (lent room (length s'.schedule)) s'.gains t'.gains s'.schedule t'.schedule r' m T W l) (sym al.gains) h'.0 in
      let same = subst (λ xs. ShowBy u (lent slots (length s.gains)) (lent room (length xs)) s'.gains t'.gains xs t'.schedule r' m T W l) (sym al.schedule) first in
      let one = show_one u (lent slots (length s.gains)) (lent room (length s.schedule)) s.gains s'.gains t.gains t'.gains s.schedule t.schedule t'.schedule r r' h.0 same in
      (one.0, alike_at _ _ t t' h.1 h'.1 (record { gains = one.1 ∙ al.gains ∙ sym one.2; fewer = al.fewer; more = al.more; schedule = one.3; pays = al.pays }))
  request_one s s' t t' (Judge room) r r' al h h' =
      let same = subst (λ xs. JudgeBy (lent room (length xs)) xs t'.pays r' m T W l) (sym al.pays) h'.0 in
      let one = judge_one (lent room (length s.pays)) s.pays t.pays t'.pays r r' h.0 same in
      (one.0, alike_at _ _ t t' h.1 h'.1 (record { gains = al.gains; fewer = al.fewer; more = al.more; schedule = al.schedule; pays = one.1 }))

-- a list of requests --

module _ (m : Meaning) (T W : ℕ) (a a' : Shared) (al : Alike a a') where
  lengths : SameLengths a a'
  lengths = record { gains = sym al.gains; fewer = sym al.fewer; more = sym al.more; schedule = ap length (sym al.schedule); pays = ap length (sym al.pays) }

  calls_same : (qs : List Request) → calls_of a' qs ≡ calls_of a qs
  calls_same [] = refl
  calls_same (q ∷ qs) = let first = called_same a a' q lengths in let others = calls_same qs in λ i. first i ∷ others i

  through_one : (l : Ledger) (s s' t t' : Shared) (qs : List Request) (rs rs' : List (Result Answer Decline)) → Alike s s' → Through m T W a l s qs rs t → Through m T W a' l s' qs rs' t' → (rs ≡ rs') × Alike t t'
  through_one l s s' t t' [] [] [] at h h' = (refl, alike_at s s' t t' h h' at)
  through_one l s s' t t' [] [] (r' ∷ rs') at h h' = absurd h'
  through_one l s s' t t' [] (r ∷ rs) rs' at h h' = absurd h
  through_one l s s' t t' (q ∷ qs) [] rs' at h h' = absurd h
  through_one l s s' t t' (q ∷ qs) (r ∷ rs) [] at h h' = absurd h'
  through_one l s s' t t' (q ∷ qs) (r ∷ rs) (r' ∷ rs') at h h' =
      let one = request_one m T W l s s' h.0 h'.0 q r r' at h.1 h'.1 in
      let rest = subst (λ c. Through m T W a' (step m T W l c) h'.0 qs rs' t') (called_same a a' q lengths) h'.2 in
      let more = through_one (step m T W l (called_by a q)) h.0 h'.0 t t' qs rs rs' one.1 h.2 rest in
      (λ i. one.0 i ∷ more.0 i, more.1)

written_one : (rs : List (Result Answer Decline)) (old new new' : List (Option (Result Answer Decline))) → Written rs old new → Written rs old new' → new ≡ new'
written_one rs old new new' w w' =
    ext_get_or None new new' (w.long ∙ sym w'.long)
    (λ i lt. let below : i < length old = subst (λ n. i < n) w.long lt in w.each i below ∙ sym (w'.each i below))

-- the whole --

module _ (m : Meaning) (T W : ℕ) (qs : List Request) (a a' z z' : Shared) (old new new' : List (Option (Result Answer Decline))) (r r' : Result Judgement Decline) (al : Alike a a') where
  settles_one : Settles m T W qs a z old new r → Settles m T W qs a' z' old new' r' → (r ≡ r') × (new ≡ new') × Alike z z'
  settles_one h h' =
      let t = through_one m T W a a' al fresh a a' h.last h'.last qs h.replies h'.replies al h.answered h'.answered in
      let l = ledger m T W (calls_of a qs) in
      let written : Written h.replies old new' = subst (λ rs. Written rs old new') (sym t.0) h'.written in
      let here = subst (λ cs. Judges m T W (ledger m T W cs) h'.last.pays z'.pays r') (calls_same m T W a a' al qs) h'.judged in
      let judged : Judges m T W l h.last.pays z'.pays r' = subst (λ xs. Judges m T W l xs z'.pays r') (sym t.1.pays) here in
      let one = judged_one m T W l h.last.pays z.pays z'.pays r r' h.judged judged in (
        one.0,
        written_one h.replies old new new' h.written written,
        alike_at _ _ z z' h.rest h'.rest (record { gains = t.1.gains; fewer = t.1.fewer; more = t.1.more; schedule = t.1.schedule; pays = one.1 }),
      )

  settled_one : (o : Option Fault) → SettleAnswer o m T W qs a z old new r → SettleAnswer o m T W qs a' z' old new' r' → (r ≡ r') × (new ≡ new') × Alike z z'
  settled_one None h h' = settles_one h h'
  settled_one (Some f) h h' = unopened r r' h h'
    where
      unopened : (x x' : Result Judgement Decline) → SettleAnswer (Some f) m T W qs a z old new x → SettleAnswer (Some f) m T W qs a' z' old new' x' → (x ≡ x') × (new ≡ new') × Alike z z'
      unopened (Ok j) x' k k' = absurd k
      unopened (Err d) (Ok j) k k' = absurd k'
      unopened (Err d) (Err e) k k' = (
        ap Err (same_decline d e (k.0.number ∙ sym k'.0.number) (k.0.place ∙ sym k'.0.place)),
        k.2 ∙ sym k'.2,
        alike_at a a' z z' k.1 k'.1 al,
      )

pub one_settlement : OneSettlementLaw
one_settlement m T W qs a a' z z' old new new' r r' al h h' = settled_one m T W qs a a' z z' old new new' r r' al (open_fault m T W) h h'
