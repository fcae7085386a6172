-- Supply and show on a docket. Assumes nothing.
use Rattle.std.proofs.Common.{◌≡◌, ℕ, ◌≤◌, Bool, true, false, ◌&&◌, leb, List, length, take, ℤ, None, Ok, Err, Result, sym, refl, ◌∙◌, subst, inl, inr, arith}
use Rattle.std.proofs.lemmas.Bool.Decides.{nat_tests}
use Rattle.terms.specs.declared.decline.Decline.{Decline}
use Rattle.terms.specs.declared.entry.Entry.{Entry}
use Rattle.fleet.specs.declared.rows.PriceRow.{PriceRow}
use Rattle.fleet.specs.Units.{Meaning, UnitModel, Sound}
use Rattle.fleet.specs.Schedules.{NoSchedule}
use Rattle.fleet.specs.Rows.{Fault, prices_of}
use Rattle.fleet.specs.Gains.{Supply, First}
use Rattle.fleet.specs.Uplifts.{best}
use Rattle.fleet.specs.Answers.{Room, Searched, SupplyAnswer, FirstBestAnswer, BufferKept}
use Rattle.settlement.specs.declared.docket.Docket.{Docket}
use Rattle.settlement.specs.Ledger.{Ledger, Call, supply, show, held_back, check, ledger}
use Rattle.settlement.specs.Reasons.{Declined, Answered, KeptAtDecline, Beyond, wrong, here, reason, nothing, SupplyBeyond}
use Rattle.settlement.specs.Follow.{SheetFollows, GoesOn}
use Rattle.settlement.specs.Calls.{UnitPrices, Supplies, Shows}
use Rattle.settlement.proofs.Ledgers.{Kept, kept}
use Rattle.settlement.proofs.Holds.{check_no, check_yes, held_by, unit_declined, unit_passed, UnitPassed}
use Rattle.settlement.proofs.Never.{held_64, sound_priced, best_within, supply_held}
use Rattle.settlement.proofs.Carries.{asked, held_answer, no_fault}

-- 30, then 31, which does not come, then 32, else the search's answer
searched : {X : Type 0} (m : Meaning) (T W : ℕ) (l : Ledger) (c : Call) (u : ℕ) (room : Type 0) (fits : Bool) (Far : Type 0) (Is Is' : X → Type 0) (r : Result X Decline) → held_back m T W l c ≡ check fits 30 u None → (room → fits ≡ true) → ((room → ⊥) → fits ≡ false) → wrong m T W l c ≡ reason 31 (here u Far) (reason 32 (here u (NoSchedule (m.model u) T)) nothing) → (Far → ⊥) → ((x : X) → Is x → Is' x) → ((x : X) → Is x → NoSchedule (m.model u) T → ⊥) → Searched room (m.model u) T u Is r → Answered (Declined m T W l c) Is' r
searched m T W l c u room fits Far Is Is' (Ok x) held yes' no' is near carry some (enough, h) =
    (no_fault m T W l c (held ∙ check_yes fits 30 u None (yes' enough)) (λ f w. right f (subst (λ P. P f) is w)), carry x h)
  where
    right : (f : Fault) → reason 31 (here u Far) (reason 32 (here u (NoSchedule (m.model u) T)) nothing) f → ⊥
    right f (inl a) = near a.1.1
    right f (inr (_, inl b)) = some x h b.1.1
    right f (inr (_, inr b)) = b.1
searched m T W l c u room fits Far Is Is' (Err e) held yes' no' is near carry some (inl (short, says)) = held_answer m T W l c Is' e (held_by (held_back m T W l c) (check fits 30 u None) e held (check_no fits 30 u None e (no' short) says))
searched m T W l c u room fits Far Is Is' (Err e) held yes' no' is near carry some (inr (enough, none, says)) =
    let f : Fault = record { number = 32; place = u } in
    (f, inr (held ∙ check_yes fits 30 u None (yes' enough), subst (λ P. P f) (sym is) (inr (λ p a. near a.1, inl (refl, (refl, none))))), says)

both_rooms : (a b n k : ℕ) → (a ≤ n) × (b ≤ k) → (leb a n && leb b k) ≡ true
both_rooms a b n k (h, g) = grind (arith, nat_tests)

one_short : (a b n k : ℕ) → ((a ≤ n) × (b ≤ k) → ⊥) → (leb a n && leb b k) ≡ false
one_short a b n k h = by (leb a n && leb b k) refl
  where
    both : (leb a n && leb b k) ≡ true → (a ≤ n) × (b ≤ k)
    both e = (grind (arith, nat_tests), grind (arith, nat_tests))

    by : (x : Bool) → (leb a n && leb b k) ≡ x → x ≡ false
    by false e = refl
    by true e = absurd (h (both e))

pub buffer_at_decline : {Y : Type 0} (T : ℕ) (old new : List Entry) (r : Result Y Decline) → BufferKept T old new r → KeptAtDecline old new r
buffer_at_decline T old new (Ok y) h = tt
buffer_at_decline T old new (Err e) h = h

module _ {F : Type 0} (mean : F → Meaning) (d : Docket F) (sound : Sound (mean d.fleet)) (u : ℕ) where
  abbrev m₀ : Meaning
  m₀ = mean d.fleet

  abbrev T₀ : ℕ
  T₀ = d.periods.count

  abbrev W₀ : ℕ
  W₀ = d.weight

  abbrev p₀ : UnitModel
  p₀ = m₀.model u

  passed : (l : Ledger) (row : PriceRow) → SheetFollows m₀ T₀ l d.sheet → UnitPrices m₀ d.sheet.stage u (Ok row) → UnitPassed m₀ T₀ l u row
  passed l row f h = unit_passed m₀ T₀ l d.sheet.stage u row f.stage_is h

  module _ (fewer more : ℕ) where
    pub supply_21_24 : (e : Decline) → UnitPrices m₀ d.sheet.stage u (Err e) → GoesOn mean d d (supply u fewer more) (Supplies u fewer more (Err e))
    supply_21_24 e h = asked mean d (supply u fewer more) (Supplies u fewer more (Err e)) (λ l. refl) (λ cs f. held_answer m₀ T₀ W₀ (ledger m₀ T₀ W₀ cs) (supply u fewer more) (Supply p₀ T₀ (ledger m₀ T₀ W₀ cs).prices) e (unit_declined m₀ T₀ (ledger m₀ T₀ W₀ cs) d.sheet.stage u e _ f.stage_is h))

    pub supply_goes : (row : PriceRow) (r : Result (ℤ × ℤ × ℤ) Decline) → UnitPrices m₀ d.sheet.stage u (Ok row) → SupplyAnswer m₀ u row fewer more r → GoesOn mean d d (supply u fewer more) (Supplies u fewer more r)
    supply_goes row r known h = asked mean d (supply u fewer more) (Supplies u fewer more r) (λ l. refl) (λ cs f. at (ledger m₀ T₀ W₀ cs) (kept m₀ T₀ W₀ cs) f)
      where
        at : (l : Ledger) → Kept m₀ T₀ W₀ l → SheetFollows m₀ T₀ l d.sheet → Answered (Declined m₀ T₀ W₀ l (supply u fewer more)) (Supply p₀ T₀ l.prices) r
        at l k f =
            let ok = passed l row f known in
            let priced = sound_priced T₀ l.prices (k.sound_prices ok.priced) in
            let here_now : Searched (Room fewer × Room more) p₀ T₀ u (Supply p₀ T₀ l.prices) r = subst (λ x. Searched (Room fewer × Room more) p₀ T₀ u (Supply p₀ T₀ x) r) ok.prices (subst (λ n. Searched (Room fewer × Room more) p₀ n u (Supply p₀ n (prices_of row)) r) ok.long h) in
            searched m₀ T₀ W₀ l (supply u fewer more) u (Room fewer × Room more) (leb 3920 fewer && leb 3920 more) (SupplyBeyond m₀ T₀ W₀ l u) (Supply p₀ T₀ l.prices) (Supply p₀ T₀ l.prices) r
            (ok.next (check (leb 3920 fewer && leb 3920 more) 30 u None)) (both_rooms 3920 3920 fewer more) (one_short 3920 3920 fewer more) refl
            (λ far. supply_held p₀ (sound.each u) T₀ l.prices priced far.0 far.1 far.2)
            (λ x s. s) (λ x s none. none s.best.by s.best.attained.scheduled) here_now

  module _ (slots : ℕ) (old new : List Entry) where
    pub show_21_24 : (e : Decline) → old ≡ new → UnitPrices m₀ d.sheet.stage u (Err e) → GoesOn mean d d (show u slots (length old)) (Shows u slots old new (Err e))
    show_21_24 e same h = asked mean d (show u slots (length old)) (Shows u slots old new (Err e)) (λ l. refl) (λ cs f. (held_answer {X = Unit {0}} m₀ T₀ W₀ (ledger m₀ T₀ W₀ cs) (show u slots (length old)) (λ _. First p₀ T₀ (ledger m₀ T₀ W₀ cs).prices (take T₀ new)) e (unit_declined m₀ T₀ (ledger m₀ T₀ W₀ cs) d.sheet.stage u e _ f.stage_is h), sym same))

    pub show_goes : (row : PriceRow) (r : Result (Unit {0}) Decline) → UnitPrices m₀ d.sheet.stage u (Ok row) → FirstBestAnswer m₀ u row slots old new r → GoesOn mean d d (show u slots (length old)) (Shows u slots old new r)
    show_goes row r known h = asked mean d (show u slots (length old)) (Shows u slots old new r) (λ l. refl) (λ cs f. at (ledger m₀ T₀ W₀ cs) (kept m₀ T₀ W₀ cs) f)
      where
        at : (l : Ledger) → Kept m₀ T₀ W₀ l → SheetFollows m₀ T₀ l d.sheet → Answered (Declined m₀ T₀ W₀ l (show u slots (length old))) (λ _. First p₀ T₀ l.prices (take T₀ new)) r × BufferKept T₀ old new r
        at l k f =
            let ok = passed l row f known in
            let priced = sound_priced T₀ l.prices (k.sound_prices ok.priced) in
            let here_now : Searched (Room slots × (T₀ ≤ length old)) p₀ T₀ u (λ _. First p₀ T₀ l.prices (take T₀ new)) r = subst (λ x. Searched (Room slots × (T₀ ≤ length old)) p₀ T₀ u (λ _. First p₀ T₀ x (take T₀ new)) r) ok.prices (subst (λ n. Searched (Room slots × (n ≤ length old)) p₀ n u (λ _. First p₀ n (prices_of row) (take n new)) r) ok.long h.0) in (
              searched m₀ T₀ W₀ l (show u slots (length old)) u (Room slots × (T₀ ≤ length old)) (leb 3920 slots && leb T₀ (length old)) (Beyond (best p₀ T₀ l.prices)) (λ _. First p₀ T₀ l.prices (take T₀ new)) (λ _. First p₀ T₀ l.prices (take T₀ new)) r
                  (ok.next (check (leb 3920 slots && leb T₀ (length old)) 30 u None)) (both_rooms 3920 T₀ slots (length old)) (one_short 3920 T₀ slots (length old)) refl
                  (held_64 48000000000000 (best p₀ T₀ l.prices) (omega arith) (best_within p₀ (sound.each u) T₀ l.prices priced))
                  (λ x s. s) (λ x s none. none s.best.by s.best.attained.scheduled) here_now,
              subst (λ n. BufferKept n old new r) ok.long h.1,
            )
