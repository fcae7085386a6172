-- Run and mix on a docket. Assumes nothing.
use Rattle.std.proofs.Common.{◌≡◌, ℕ, zero, suc, ◌+◌, ◌-◌, ◌<◌, ◌≤◌, true, false, not, ◌&&◌, ltb, leb, ◌⊎◌, List, [], ◌∷◌, length, get_or, ℤ, is_some, IsErrAnd, Some, None, Ok, Err, Option, Result, sym, refl, ap, ◌∙◌, subst, inl, inr, ⊎_elim, arith}
use Rattle.std.proofs.lemmas.Bool.Decides.{nat_tests}
use Rattle.std.proofs.lemmas.Bool.{both_ways}
use Rattle.terms.specs.Declines.{Says}
use Rattle.terms.specs.Numbers.{Near}
use Rattle.terms.specs.declared.decline.Decline.{Decline}
use Rattle.terms.specs.declared.decline.Layer.TheVariants.{Docket as DocketLayer}
use Rattle.terms.proofs.Bounds.{near_zero}
use Rattle.terms.specs.declared.entry.Entry.{Entry}
use Rattle.fleet.specs.declared.rows.PriceRow.{PriceRow}
use Rattle.fleet.specs.Units.{Meaning, UnitModel, SoundUnit, Sound}
use Rattle.fleet.specs.Schedules.{Prices, Schedule, Allowed, AllowedFrom, gain_of}
use Rattle.fleet.specs.Rows.{Fault, prices_of, periods_of}
use Rattle.fleet.specs.Gains.{BestGain, IsBest, best_gain}
use Rattle.fleet.specs.Answers.{Room, Searched, Free}
use Rattle.fleet.specs.Uplifts.{best}
use Rattle.fleet.proofs.Arcs.{holds_near}
use Rattle.fleet.proofs.RowFacts.{Priced}
use Rattle.fleet.proofs.GainBounds.{gain_near}
use Rattle.fleet.proofs.BestGains.{best_gain_law}
use Rattle.fleet.proofs.Totals.{best_unique}
use Rattle.settlement.specs.declared.counted.Counted.{Counted}
use Rattle.settlement.specs.declared.standing.Standing.{Standing}
use Rattle.settlement.specs.declared.docket.Docket.{Docket}
use Rattle.settlement.specs.Ledger.{Ledger, run, mix, is_priced, has, weighs, held_back, check}
use Rattle.settlement.specs.Reasons.{wrong}
use Rattle.settlement.specs.Evidence.{lots_at}
use Rattle.settlement.specs.Sheets.{RunNoted, MixNoted}
use Rattle.settlement.specs.Follow.{UnitFollows, Stands, SheetFollows, GoesOn}
use Rattle.settlement.specs.Calls.{Enters, UnitPrices, Accounted, WorkTable}
use Rattle.settlement.proofs.Holds.{check_no, check_yes, held_by, unit_declined, unit_passed, UnitPassed, account_declined, account_passed, AccountPassed, stands_has}
use Rattle.settlement.proofs.Never.{held_64, sound_priced, best_within}
use Rattle.settlement.proofs.Puts.{run_put, mix_put}
use Rattle.settlement.proofs.Carries.{refused, accepted}

-- what holds at a decline holds of what `?` passes on
pub at_passed : {T : Type 0} (P : Result T Decline → Type 0) (r : Result T Decline) (e : Decline) → IsErrAnd r (λ y. y ≡ e) → P (Err e) → P r
at_passed P (Ok x) e h p = absurd h
at_passed P (Err y) e h p = subst (λ d. P (Err d)) (sym h) p

-- the outputs of an allowed schedule
lots_from : (p : UnitModel) → SoundUnit p → (t a : ℕ) (es : List Entry) → AllowedFrom p t a es → (k : ℕ) → Near 500 (lots_at es k)
lots_from p sp t a [] h k = near_zero 500
lots_from p sp t a (e ∷ es) h zero = holds_near (p.arc t a e.state) e.output (sp.arcs t a e.state) h.0
lots_from p sp t a (e ∷ es) h (suc k) = lots_from p sp (t + 1) e.state es h.1 k

pub allowed_lots : (p : UnitModel) → SoundUnit p → (es : List Entry) → Allowed p es → (t : ℕ) → Near 500 (lots_at es t)
allowed_lots p sp es h t = lots_from p sp 0 p.start es h t

-- the best gain that a search found is the function's
pub best_found : (p : UnitModel) → SoundUnit p → (T : ℕ) (r : Prices) (g : ℤ) → BestGain p T r g → best_gain p T r ≡ Some g
best_found p sp T r g b = by (best_gain p T r) (best_gain_law p sp T r)
  where
    by : (o : Option ℤ) → IsBest p T r o → o ≡ Some g
    by None h = absurd (h b.by b.attained.scheduled)
    by (Some x) h = ap Some (best_unique p T r x g h b)

no_room : (n : ℕ) → (3920 ≤ n → ⊥) → leb 3920 n ≡ false
no_room n h = grind (arith, nat_tests)

enough_room : (n : ℕ) → 3920 ≤ n → leb 3920 n ≡ true
enough_room n h = grind (arith, nat_tests)

no_weight : (w left : ℕ) → (w < 1) ⊎ (left < w) → (leb 1 w && leb w left) ≡ false
no_weight w left h = grind (arith, nat_tests)

fair_weight : (w left : ℕ) → 1 ≤ w → w ≤ left → (leb 1 w && leb w left) ≡ true
fair_weight w left a b = grind (arith, nat_tests)

module _ {F : Type 0} (mean : F → Meaning) (d : Docket F) (sound : Sound (mean d.fleet)) (u : ℕ) (es : List Entry) where
  abbrev m₀ : Meaning
  m₀ = mean d.fleet

  abbrev T₀ : ℕ
  T₀ = d.periods.count

  abbrev W₀ : ℕ
  W₀ = d.weight

  abbrev p₀ : UnitModel
  p₀ = m₀.model u

  passed : (l : Ledger) (row : PriceRow) → SheetFollows m₀ T₀ l d.sheet → UnitPrices m₀ d.sheet.stage u (Ok row) → UnitPassed m₀ T₀ l u row
  passed l row f h = unit_passed m₀ T₀ l d.sheet.stage u row f.stage_is h

  -- run --

  module _ (slots : ℕ) where
    pub run_21_24 : (e : Decline) → UnitPrices m₀ d.sheet.stage u (Err e) → GoesOn mean d d (run u es slots) (Enters (run u es slots) (Err e))
    run_21_24 e h = refused mean d (run u es slots) e (λ l f. unit_declined m₀ T₀ l d.sheet.stage u e _ f.stage_is h)

    module _ (row : PriceRow) (known : UnitPrices m₀ d.sheet.stage u (Ok row)) where
      pub run_25 : (e : Decline) → has (get_or d.sheet.units u None) ≡ true → Says DocketLayer 25 u e → GoesOn mean d d (run u es slots) (Enters (run u es slots) (Err e))
      run_25 e stood says =
          refused mean d (run u es slots) e
          (λ l f. held_by _ _ e ((passed l row f known).next _) (check_no (not (has (l.runs u))) 25 u _ e (ap not (stands_has m₀ T₀ l u (get_or d.sheet.units u None) (f.units_are u) ∙ stood)) says))

      module _ (first : get_or d.sheet.units u None ≡ None) where
        -- no run stands on the ledger
        idle : (l : Ledger) → SheetFollows m₀ T₀ l d.sheet → l.runs u ≡ None
        idle l f = subst (UnitFollows m₀ T₀ l u) first (f.units_are u)

        first_run : (l : Ledger) → SheetFollows m₀ T₀ l d.sheet → (after : Option Fault) → check (is_priced l.stage) 21 u (check (ltb u m₀.units) 24 u (check (not (has (l.runs u))) 25 u after)) ≡ after
        first_run l f after = (passed l row f known).next (check (not (has (l.runs u))) 25 u after) ∙ check_yes (not (has (l.runs u))) 25 u after (ap (λ o. not (has o)) (idle l f))

        pub run_26_27 : (e : Decline) → Accounted p₀ T₀ row u es (Err e) → GoesOn mean d d (run u es slots) (Enters (run u es slots) (Err e))
        run_26_27 e h = refused mean d (run u es slots) e (λ l f. held_by _ _ e (first_run l f _) (account_declined p₀ T₀ row u es e _ h))

        module _ (k : Counted) (fine : Accounted p₀ T₀ row u es (Ok k)) where
          counted : (l : Ledger) → SheetFollows m₀ T₀ l d.sheet → AccountPassed p₀ T₀ l.prices u es k
          counted l f = account_passed p₀ T₀ row l.prices u es k (passed l row f known).prices fine

          allowed_run : (l : Ledger) → SheetFollows m₀ T₀ l d.sheet → held_back m₀ T₀ W₀ l (run u es slots) ≡ check (leb 3920 slots) 30 u None
          allowed_run l f = first_run l f _ ∙ (counted l f).next (check (leb 3920 slots) 30 u None)

          -- 30; the schedule that was just allowed is one, so 32 does not come
          pub run_30 : (e : Decline) → Searched {X = ℤ} (Room slots) p₀ (periods_of row) u (BestGain p₀ (periods_of row) (prices_of row)) (Err e) → GoesOn mean d d (run u es slots) (Enters (run u es slots) (Err e))
          run_30 e (inl h) = refused mean d (run u es slots) e (λ l f. held_by _ _ e (allowed_run l f) (check_no (leb 3920 slots) 30 u None e (no_room slots h.0) h.1))
          run_30 e (inr h) = refused mean d (run u es slots) e (λ l f. absurd (h.1 es (subst (λ n. Schedule p₀ n es) (sym (passed l row f known).long) (counted l f).scheduled)))

          pub run_taken : (d' : Docket F) (b : ℤ) → d'.fleet ≡ d.fleet → d'.periods.count ≡ T₀ → d'.weight ≡ W₀ → Room slots → BestGain p₀ (periods_of row) (prices_of row) b → RunNoted u k.gain b es d.sheet d'.sheet → u < length d.sheet.units → GoesOn mean d d' (run u es slots) (Enters (run u es slots) (Ok tt))
          run_taken d' b same_fleet same_periods same_weight room found noted within =
              accepted mean d d' (run u es slots) same_fleet same_periods same_weight
              (λ l kept f.
              let ok = passed l row f known in
              let sp = sound.each u in
              let run_is = counted l f in
              let priced = sound_priced T₀ l.prices (kept.sound_prices ok.priced) in
              let is : best_gain p₀ T₀ l.prices ≡ Some b = ap (λ n. best_gain p₀ n l.prices) (sym ok.long) ∙ ap (best_gain p₀ (periods_of row)) (sym ok.prices) ∙ best_found p₀ sp (periods_of row) (prices_of row) b found in (
                allowed_run l f ∙ check_yes (leb 3920 slots) 30 u None (enough_room slots room),
                run_right l priced run_is.scheduled.allowed,
                run_put m₀ T₀ W₀ l u slots es k.gain b d.sheet d'.sheet kept f noted known.1 within (idle l f) run_is.gain is,
              ))
            where
              run_right : (l : Ledger) → Priced l.prices → Allowed p₀ es → (f : Fault) → wrong m₀ T₀ W₀ l (run u es slots) f → ⊥
              run_right l pr al f (inl h) = ⊎_elim (held_64 48000000000000 (gain_of p₀ l.prices es) (omega arith) (gain_near p₀ (sound.each u) l.prices pr es al)) (held_64 48000000000000 (best p₀ T₀ l.prices) (omega arith) (best_within p₀ (sound.each u) T₀ l.prices pr)) h.1.1
              run_right l pr al f (inr h) = h.1

  -- mix --

  module _ (w : ℕ) where
    pub mix_21_24 : (e : Decline) → UnitPrices m₀ d.sheet.stage u (Err e) → GoesOn mean d d (mix u w es) (Enters (mix u w es) (Err e))
    mix_21_24 e h = refused mean d (mix u w es) e (λ l f. unit_declined m₀ T₀ l d.sheet.stage u e _ f.stage_is h)

    module _ (row : PriceRow) (known : UnitPrices m₀ d.sheet.stage u (Ok row)) where
      pub mix_26_27 : (e : Decline) → Accounted p₀ T₀ row u es (Err e) → GoesOn mean d d (mix u w es) (Enters (mix u w es) (Err e))
      mix_26_27 e h = refused mean d (mix u w es) e (λ l f. held_by _ _ e ((passed l row f known).next _) (account_declined p₀ T₀ row u es e _ h))

      module _ (k : Counted) (fine : Accounted p₀ T₀ row u es (Ok k)) where
        mix_counted : (l : Ledger) → SheetFollows m₀ T₀ l d.sheet → AccountPassed p₀ T₀ l.prices u es k
        mix_counted l f = account_passed p₀ T₀ row l.prices u es k (passed l row f known).prices fine

        abbrev of_weight : Ledger → Option Fault
        of_weight l = check (leb 1 w && leb w (W₀ - weighs u l.mixes)) 29 u None

        allowed_mix : (l : Ledger) → SheetFollows m₀ T₀ l d.sheet → held_back m₀ T₀ W₀ l (mix u w es) ≡ check (has (l.runs u)) 28 u (of_weight l)
        allowed_mix l f = (passed l row f known).next _ ∙ (mix_counted l f).next (check (has (l.runs u)) 28 u (of_weight l))

        pub mix_28 : (e : Decline) → get_or d.sheet.units u None ≡ None → Says DocketLayer 28 u e → GoesOn mean d d (mix u w es) (Enters (mix u w es) (Err e))
        mix_28 e none says = refused mean d (mix u w es) e (λ l f. held_by _ _ e (allowed_mix l f) (check_no (has (l.runs u)) 28 u (of_weight l) e (ap has (subst (UnitFollows m₀ T₀ l u) none (f.units_are u))) says))

        module _ (s : Standing) (stood : get_or d.sheet.units u None ≡ Some s) where
          stands : (l : Ledger) → SheetFollows m₀ T₀ l d.sheet → Stands m₀ T₀ l u s
          stands l f = subst (UnitFollows m₀ T₀ l u) stood (f.units_are u)

          weighed : (l : Ledger) → SheetFollows m₀ T₀ l d.sheet → held_back m₀ T₀ W₀ l (mix u w es) ≡ check (leb 1 w && leb w (W₀ - s.mixed)) 29 u None
          weighed l f = allowed_mix l f ∙ check_yes (has (l.runs u)) 28 u (of_weight l) (ap has (stands l f).ran) ∙ ap (λ n. check (leb 1 w && leb w (W₀ - n)) 29 u None) (sym (stands l f).mixed_is)

          pub mix_29 : (e : Decline) → (w < 1) ⊎ (W₀ - s.mixed < w) → Says DocketLayer 29 u e → GoesOn mean d d (mix u w es) (Enters (mix u w es) (Err e))
          mix_29 e bad says = refused mean d (mix u w es) e (λ l f. held_by _ _ e (weighed l f) (check_no (leb 1 w && leb w (W₀ - s.mixed)) 29 u None e (no_weight w (W₀ - s.mixed) bad) says))

          pub mix_taken : (d' : Docket F) → d'.fleet ≡ d.fleet → d'.periods.count ≡ T₀ → d'.weight ≡ W₀ → 1 ≤ w → w ≤ W₀ - s.mixed → MixNoted u s w k.gain es d.sheet d'.sheet → u < length d.sheet.units → GoesOn mean d d' (mix u w es) (Enters (mix u w es) (Ok tt))
          mix_taken d' same_fleet same_periods same_weight some left noted within =
              accepted mean d d' (mix u w es) same_fleet same_periods same_weight
              (λ l kept f. (
                weighed l f ∙ check_yes (leb 1 w && leb w (W₀ - s.mixed)) 29 u None (fair_weight w (W₀ - s.mixed) some left),
                λ _ wrong. wrong,
                mix_put m₀ T₀ W₀ l u w es k.gain s d.sheet d'.sheet f stood noted within (mix_counted l f).gain,
              ))

-- whether a unit stands, as the code asks it
pub stood_is : (o q : Option Standing) → o ≡ q → true ≡ is_some o → has q ≡ true
stood_is o None e h = absurd (both_ways true (h ∙ ap is_some e) refl)
stood_is o (Some s) e h = refl

pub not_stood : (o q : Option Standing) → o ≡ q → false ≡ is_some o → q ≡ None
not_stood o None e h = refl
not_stood o (Some s) e h = absurd (both_ways true (sym (h ∙ ap is_some e)) refl)

-- a table after a search that was declined
pub table_searched : {X Y Z : Type 0} (room : Type 0) (p : UnitModel) (T u : ℕ) (Is : Z → Type 0) (old new : List X) (e : Decline) → Searched room p T u Is (Err e) → Free room old new → WorkTable {Y = Y} old new (Err e)
table_searched room p T u Is old new e (inl h) free = record { long = free.long; untouched = λ _. free.untouched h.0 }
table_searched room p T u Is old new e (inr h) free = record { long = free.long; untouched = λ searched. absurd (searched (inr h.2.number)) }

-- and after one that was answered
pub table_used : {X Y : Type 0} (old new : List X) (y : Y) → length new ≡ length old → WorkTable old new (Ok y)
table_used old new y e = record { long = e; untouched = λ searched. absurd (searched tt) }

pub table_after : {X Y : Type 0} (room : Type 0) (p : UnitModel) (T u : ℕ) (Is : Y → Type 0) (old new : List X) (r : Result Y Decline) → Searched room p T u Is r → Free room old new → WorkTable old new r
table_after room p T u Is old new (Ok y) h free = table_used old new y free.long
table_after room p T u Is old new (Err e) h free = table_searched room p T u Is old new e h free
