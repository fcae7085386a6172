-- Answers that last while the docket is priced. Assumes nothing.
use Rattle.std.proofs.Common.{◌≡◌, ℕ, zero, suc, true, false, cond, List, [], ◌∷◌, ◌++◌, length, replicate, ℤ, Some, None, Ok, Err, Option, Result, slice_index_or, refl, sym, ap, ◌∙◌, subst, inl, inr, arith}
use Rattle.std.proofs.lemmas.Bool.{cases_Bool, eqb-true, true≢false}
use Rattle.std.proofs.lemmas.Option.{same_Some}
use Rattle.terms.specs.Declines.{number_of}
use Rattle.terms.specs.declared.decline.Decline.{Decline}
use Rattle.terms.specs.declared.entry.Entry.{Entry}
use Rattle.fleet.specs.Units.{Meaning}
use Rattle.fleet.specs.Rows.{Fault, need_fault, price_fault}
use Rattle.fleet.specs.Schedules.{Prices}
use Rattle.settlement.specs.Ledger.{Ledger, Stage, blank, needed, priced, Call, need, price, run, mix, supply, show, judge, is_blank, is_needed, is_priced, held_back, entered, unless, step, ledger}
use Rattle.settlement.specs.Reasons.{Declined, Answered}
use Rattle.settlement.specs.Calls.{Supplies, Shows}
use Rattle.settlement.proofs.Ledgers.{more, some_none}
use Rattle.day.specs.Lasting.{lasts, ShowIs, Lasting}

pub same_at : {X : Type 0} (n u : ℕ) (d : X) → slice_index_or (replicate n d) u d ≡ d
same_at zero u d = refl
same_at (suc n) zero d = refl
same_at (suc n) (suc u) d = same_at n u d

-- a priced ledger stays priced, at its prices --

record Stays (l l' : Ledger) : Type 0 where
  pub stage : l'.stage ≡ l.stage
  pub prices : l'.prices ≡ l.prices

not_blank : (s : Stage) → is_priced s ≡ true → is_blank s ≡ false
not_blank blank e = absurd (true≢false (sym e))
not_blank needed e = refl
not_blank priced e = refl

not_needed : (s : Stage) → is_priced s ≡ true → is_needed s ≡ false
not_needed blank e = refl
not_needed needed e = absurd (true≢false (sym e))
not_needed priced e = refl

same_stays : (l l' : Ledger) → l' ≡ l → Stays l l'
same_stays l l' e = record { stage = ap (λ x. x.stage) e; prices = ap (λ x. x.prices) e }

module _ (m : Meaning) (T W : ℕ) where
  unless_stays : (l new : Ledger) (o : Option Fault) → Stays l new → Stays l (unless m T W o new l)
  unless_stays l new None s = s
  unless_stays l new (Some f) s = record { stage = refl; prices = refl }

  stays : (l : Ledger) (c : Call) → is_priced l.stage ≡ true → Stays l (step m T W l c)
  stays l (need xs) e = same_stays l (step m T W l (need xs)) (ap (λ b. unless m T W (cond b (need_fault T xs) (Some (record { number = 21; place = 0 }))) (entered m T W l (need xs)) l) (not_blank l.stage e))
  stays l (price d ns) e = same_stays l (step m T W l (price d ns)) (ap (λ b. unless m T W (cond b (price_fault T d ns) (Some (record { number = 21; place = 0 }))) (entered m T W l (price d ns)) l) (not_needed l.stage e))
  stays l (run u es k) e = unless_stays l (entered m T W l (run u es k)) (held_back m T W l (run u es k)) (record { stage = refl; prices = refl })
  stays l (mix u w es) e = unless_stays l (entered m T W l (mix u w es)) (held_back m T W l (mix u w es)) (record { stage = refl; prices = refl })
  stays l (supply u a b) e = unless_stays l l (held_back m T W l (supply u a b)) (record { stage = refl; prices = refl })
  stays l (show u a b) e = unless_stays l l (held_back m T W l (show u a b)) (record { stage = refl; prices = refl })
  stays l (judge a) e = unless_stays l l (held_back m T W l (judge a)) (record { stage = refl; prices = refl })

  -- what is asked of stage and prices alone
  abbrev bare : Stage → Prices → Ledger
  bare s r = record { stage = s; needs = []; prices = r; runs = λ _. None; mixes = [] }

  carried : (P : Stage → Prices → Type 0) (l l' : Ledger) → Stays l l' → P l.stage l.prices → P l'.stage l'.prices
  carried P l l' s p = subst (λ x. P x l'.prices) (sym s.stage) (subst (λ r. P l.stage r) (sym s.prices) p)

  show_at : (u : ℕ) (q : Result (List Entry) Decline) (l l' : Ledger) → Stays l l' → ShowIs u q m T W l → ShowIs u q m T W l'
  show_at u (Ok es) l l' s h = (h.0, carried (λ x r. Shows u 3920 es es (Ok tt) m T W (bare x r)) l l' s h.1)
  show_at u (Err d) l l' s h = (h.0, h.1, carried (λ x r. Shows u 3920 h.0 h.0 (Err d) m T W (bare x r)) l l' s h.2)

  pub lasting_more : (cs : List Call) (c : Call) (supplies : List (Option (Result (ℤ × ℤ × ℤ) Decline))) (shows : List (Option (Result (List Entry) Decline))) → Lasting m T W (ledger m T W cs) supplies shows → Lasting m T W (ledger m T W (cs ++ (c ∷ []))) supplies shows
  lasting_more cs c supplies shows k =
      let l = ledger m T W cs in
      subst (λ x. Lasting m T W x supplies shows) (sym (more m T W cs c))
      (record {
        supply = λ u q e. let h = k.supply u q e in let s = stays l c h.0 in
            (ap is_priced s.stage ∙ h.0, carried (λ x r. Supplies u 3920 3920 q m T W (bare x r)) l (step m T W l c) s h.1);
        show = λ u q e. let h = k.show u q e in let s = stays l c h.0 in
            (ap is_priced s.stage ∙ h.0, show_at u q l (step m T W l c) s h.1);
      })

  -- an answer that lasts is one of a priced docket --

  abbrev early : ℕ → Fault
  early u = record { number = 21; place = u }

  -- one that is not priced declines with 21
  wrong_stage : {X : Type 0} (l : Ledger) (c : Call) (u : ℕ) (Is : X → Type 0) (q : Result X Decline) → held_back m T W l c ≡ Some (early u) → Answered (Declined m T W l c) Is q → lasts q ≡ true → ⊥
  wrong_stage l c u Is (Ok x) h a e = a.0 (early u) (inl h)
  wrong_stage l c u Is (Err d) h (f, inl y, s) e =
      let n = eqb-true (number_of d.cause) 32 e in
      let k = s.number in
      let t = ap (λ (x : Fault). x.number) (same_Some (early u) f (sym h ∙ y)) in
      absurd (omega arith)
  wrong_stage l c u Is (Err d) h (f, inr y, s) e = some_none (early u) (sym h ∙ y.0)

  priced_by : {X : Type 0} (l : Ledger) (c : Call) (u : ℕ) (rest : Option Fault) (Is : X → Type 0) (q : Result X Decline) → held_back m T W l c ≡ cond (is_priced l.stage) rest (Some (early u)) → Answered (Declined m T W l c) Is q → lasts q ≡ true → is_priced l.stage ≡ true
  priced_by l c u rest Is q h a e =
      elim (cases_Bool (is_priced l.stage)) [
        | inl y ↦ y
        | inr n ↦ absurd (wrong_stage l c u Is q (h ∙ ap (λ b. cond b rest (Some (early u))) n) a e)
      ]

  pub supply_priced : (l : Ledger) (u : ℕ) (q : Result (ℤ × ℤ × ℤ) Decline) → Supplies u 3920 3920 q m T W l → lasts q ≡ true → is_priced l.stage ≡ true
  supply_priced l u q a e = priced_by l (supply u 3920 3920) u _ _ q refl a e

  pub show_priced : (l : Ledger) (u room : ℕ) (old new : List Entry) (q : Result (Unit {0}) Decline) → Shows u 3920 old new q m T W l → lasts q ≡ true → is_priced l.stage ≡ true
  show_priced l u room old new q a e = priced_by l (show u 3920 (length old)) u _ _ q refl a.0 e
