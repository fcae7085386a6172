-- What a request lends of a shared table or buffer. Assumes nothing.
use Rattle.std.proofs.Common.{MatchResult, IsOkAnd, Ok, Err, ◌≡◌, ℕ, List, ◌++◌, length, take, drop, ℤ, Option, Result, ap, ◌∙◌, subst, arith}
use Rattle.std.proofs.lemmas.List.{length-take-le}
use Rattle.std.proofs.Math.Nat.{min-le_right}
use Rattle.terms.specs.declared.decline.Decline.{Decline}
use Rattle.terms.specs.declared.entry.Entry.{Entry}
use Rattle.fleet.specs.declared.scores.Gain.{Gain}
use Rattle.fleet.specs.Scores.{FewerLots, MoreLots}
use Rattle.fleet.specs.Units.{Meaning}
use Rattle.settlement.specs.declared.docket.Docket.{Docket}
use Rattle.settlement.specs.declared.verdicts.Judgement.{Judgement}
use Rattle.settlement.specs.Ledger.{run, supply, show, judge, ledger}
use Rattle.settlement.specs.Follow.{GoesOn}
use Rattle.settlement.specs.Calls.{Enters, Supplies, Shows, WorkTable}
use Rattle.settlement.specs.Verdicts.{Judges}
use Rattle.requests.specs.declared.request.Answer.{Answer}
use Rattle.requests.specs.declared.request.Answer.TheVariants.{Entered, Shown, Judged}
use Rattle.requests.specs.Requests.{lent, saying, supplied, RunBy, SupplyBy, ShowBy, JudgeBy}

-- as long as what was lent
pub length_lent : {X : Type 0} (a j : ℕ) (xs : List X) → j ≡ lent a (length xs) → length (take j xs) ≡ lent a (length xs)
length_lent a j xs e = let h = min-le_right a (length xs) in length-take-le j xs (omega arith) ∙ e

-- a call's answer that was turned into a request's
pub said : {X : Type 0} (K : X → Answer) (P : X → Answer → Type 0) (q : Result X Decline) (r : Result Answer Decline) → ((x : X) (y : Answer) → P x y → y ≡ K x) → MatchResult q (λ x. IsOkAnd r (P x)) (λ e. r ≡ Err e) → r ≡ saying K q
said K P (Ok x) (Ok y) is h = ap Ok (is x y h)
said K P (Ok x) (Err e) is h = absurd h
said K P (Err d) r is h = h

module _ {F : Type 0} (mean : F → Meaning) (d d' : Docket F) where
  pub run_by : (u : ℕ) (es : List Entry) (slots j : ℕ) (old part : List (Option Gain)) (q : Result (Unit {0}) Decline) (r : Result Answer Decline) → j ≡ lent slots (length old) → r ≡ saying (λ _. Entered) q → GoesOn mean d d' (run u es (length (take j old))) (Enters (run u es (length (take j old))) q) → WorkTable (take j old) part q → GoesOn mean d d' (run u es (lent slots (length old))) (RunBy u es (lent slots (length old)) old (part ++ drop j old) r)
  run_by u es slots j old part q r e said goes table m T W cs f =
      let h = subst (λ n. GoesOn mean d d' (run u es n) (Enters (run u es n) q)) (length_lent slots j old e) goes m T W cs f in
      (h.0, (q, h.1, said, (part, subst (λ i. WorkTable (take i old) part q) e table, ap (λ i. part ++ drop i old) e)))

  pub supply_by : (u a b i j : ℕ) (fewer part : List (Option FewerLots)) (more piece : List (Option MoreLots)) (q : Result (ℤ × ℤ × ℤ) Decline) (r : Result Answer Decline) → i ≡ lent a (length fewer) → j ≡ lent b (length more) → r ≡ saying supplied q → GoesOn mean d d' (supply u (length (take i fewer)) (length (take j more))) (Supplies u (length (take i fewer)) (length (take j more)) q) → WorkTable (take i fewer) part q → WorkTable (take j more) piece q → GoesOn mean d d' (supply u (lent a (length fewer)) (lent b (length more))) (SupplyBy u (lent a (length fewer)) (lent b (length more)) fewer (part ++ drop i fewer) more (piece ++ drop j more) r)
  supply_by u a b i j fewer part more piece q r e g said goes one two m T W cs f =
      let first = subst (λ n. GoesOn mean d d' (supply u n (length (take j more))) (Supplies u n (length (take j more)) q)) (length_lent a i fewer e) goes in
      let h = subst (λ n. GoesOn mean d d' (supply u (lent a (length fewer)) n) (Supplies u (lent a (length fewer)) n q)) (length_lent b j more g) first m T W cs f in
      (h.0, (q, h.1, said, (part, subst (λ n. WorkTable (take n fewer) part q) e one, ap (λ n. part ++ drop n fewer) e), (piece, subst (λ n. WorkTable (take n more) piece q) g two, ap (λ n. piece ++ drop n more) g)))

  pub show_by : (u a b i j : ℕ) (table part : List (Option Gain)) (buffer piece : List Entry) (q : Result (Unit {0}) Decline) (r : Result Answer Decline) → i ≡ lent a (length table) → j ≡ lent b (length buffer) → r ≡ saying (λ _. Shown) q → GoesOn mean d d' (show u (length (take i table)) (length (take j buffer))) (Shows u (length (take i table)) (take j buffer) piece q) → WorkTable (take i table) part q → GoesOn mean d d' (show u (lent a (length table)) (lent b (length buffer))) (ShowBy u (lent a (length table)) (lent b (length buffer)) table (part ++ drop i table) buffer (piece ++ drop j buffer) r)
  show_by u a b i j table part buffer piece q r e g said goes one m T W cs f =
      let first = subst (λ n. GoesOn mean d d' (show u n (length (take j buffer))) (Shows u n (take j buffer) piece q)) (length_lent a i table e) goes in
      let h = subst (λ n. GoesOn mean d d' (show u (lent a (length table)) n) (Shows u (lent a (length table)) (take j buffer) piece q)) (length_lent b j buffer g) first m T W cs f in
      (h.0, (q, said, (part, subst (λ n. WorkTable (take n table) part q) e one, ap (λ n. part ++ drop n table) e), (piece, subst (λ n. Shows u (lent a (length table)) (take n buffer) piece q m T W (ledger m T W cs)) g h.1, ap (λ n. piece ++ drop n buffer) g)))

  pub judge_by : (a j : ℕ) (pays part : List ℤ) (q : Result Judgement Decline) (r : Result Answer Decline) → j ≡ lent a (length pays) → r ≡ saying Judged q → GoesOn mean d d' (judge (length (take j pays))) (λ m T W l. Judges m T W l (take j pays) part q) → GoesOn mean d d' (judge (lent a (length pays))) (JudgeBy (lent a (length pays)) pays (part ++ drop j pays) r)
  judge_by a j pays part q r e said goes m T W cs f =
      let h = subst (λ n. GoesOn mean d d' (judge n) (λ m T W l. Judges m T W l (take j pays) part q)) (length_lent a j pays e) goes m T W cs f in
      (h.0, (q, said, (part, subst (λ n. Judges m T W (ledger m T W cs) (take n pays) part q) e h.1, ap (λ n. part ++ drop n pays) e)))
