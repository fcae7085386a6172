-- Need and price on a docket. Assumes nothing.
use Rattle.std.proofs.Common.{◌≡◌, ℕ, Bool, false, List, ℤ, Some, None, Ok, Err, Option, Result, refl, ap, ◌∙◌, subst, Bor}
use Rattle.terms.specs.declared.decline.Decline.{Decline}
use Rattle.fleet.specs.Units.{Meaning}
use Rattle.fleet.specs.Rows.{Fault, Made, need_fault, price_fault, NeedRowOf, PriceRowOf}
use Rattle.settlement.specs.declared.stages.Stage.{Stage}
use Rattle.settlement.specs.declared.stages.Stage.TheVariants.{Blank, Needed, Priced}
use Rattle.settlement.specs.declared.docket.Docket.{Docket}
use Rattle.settlement.specs.Ledger.{Ledger, Call, need, price, is_blank, is_needed, is_priced, held_back, check}
use Rattle.settlement.specs.declared.stages.Call.{Call as StageCall}
use Rattle.settlement.specs.declared.stages.Call.TheVariants.{Need, Price}
use Rattle.settlement.specs.Reasons.{KeptAtDecline}
use Rattle.settlement.specs.Stages.{call_place, Refused}
use Rattle.settlement.specs.Sheets.{SameSums, CallEntered}
use Rattle.settlement.specs.Follow.{StageFollows, SheetFollows, GoesOn}
use Rattle.settlement.specs.Calls.{Enters}
use Rattle.settlement.proofs.Holds.{Held, check_no, check_yes, held_by}
use Rattle.settlement.proofs.Puts.{need_put, price_put}
use Rattle.settlement.proofs.Carries.{refused_alike, accepted}

made_no : {X : Type 0} (o : Option Fault) (Is : X → Type 0) (d : Decline) → Made o Is (Err d) → Held o d
made_no None Is d h = absurd h
made_no (Some f) Is d h = record { fault = f; is = refl; says = h }

stage_21 : (ok : Bool) (after : Option Fault) (old : Stage) (c : StageCall) (new : Stage) (e : Decline) → ok ≡ false → Refused old c new (Err e) → Held (check ok 21 (call_place c) after) e
stage_21 ok after old c new e fails r = check_no ok 21 (call_place c) after e fails r.0

module _ {F : Type 0} (mean : F → Meaning) (d d' : Docket F) (same_fleet : d'.fleet ≡ d.fleet) (same_periods : d'.periods.count ≡ d.periods.count) (same_weight : d'.weight ≡ d.weight) (same : SameSums d.sheet d'.sheet) where
  abbrev m₀ : Meaning
  m₀ = mean d.fleet

  abbrev T₀ : ℕ
  T₀ = d.periods.count

  abbrev W₀ : ℕ
  W₀ = d.weight

  -- at a stage of the sheet the ledger's is the same
  at : (x : Stage) → d.sheet.stage ≡ x → (l : Ledger) → SheetFollows m₀ T₀ l d.sheet → StageFollows T₀ l x
  at x is l f = subst (StageFollows T₀ l) is f.stage_is

  declines : (c : Call) (e : Decline) → d'.sheet ≡ d.sheet → ((l : Ledger) → SheetFollows m₀ T₀ l d.sheet → Held (held_back m₀ T₀ W₀ l c) e) → GoesOn mean d d' c (Enters c (Err e))
  declines c e alike say = refused_alike mean d d' c e same_fleet same_periods same_weight alike say

  pub need_goes : (w : Bor (List ℤ)) (x : Stage) (r : Result (Unit {0}) Decline) → d.sheet.stage ≡ x → CallEntered T₀ x (Need w) d'.sheet.stage r → KeptAtDecline d.sheet d'.sheet r → GoesOn mean d d' (need w.now) (Enters (need w.now) r)
  need_goes w Blank (Ok tt) is (Some rows, h) k = absurd h
  need_goes w Blank (Ok tt) is (None, h) k =
      accepted mean d d' (need w.now) same_fleet same_periods same_weight
      (λ l kept f. (check_yes (is_blank l.stage) 21 0 (need_fault T₀ w.now) (ap is_blank (at Blank is l f)) ∙ h.3, λ _ wrong. wrong, need_put m₀ T₀ W₀ l w.now d.sheet d'.sheet h.0 f same h.1 h.2))
  need_goes w Blank (Err e) is h k =
      declines (need w.now) e k
      (λ l f. held_by (check (is_blank l.stage) 21 0 (need_fault T₀ w.now)) (need_fault T₀ w.now) e (check_yes (is_blank l.stage) 21 0 (need_fault T₀ w.now) (ap is_blank (at Blank is l f))) (made_no (need_fault T₀ w.now) (NeedRowOf T₀ w.now) e h.1))
  need_goes w (Needed needs) (Ok tt) is (given, h) k = absurd h
  need_goes w (Needed needs) (Err e) is h k = declines (need w.now) e k (λ l f. stage_21 (is_blank l.stage) (need_fault T₀ w.now) (Needed needs) (Need w) d'.sheet.stage e (ap is_blank (at (Needed needs) is l f).0) h)
  need_goes w (Priced rows) (Ok tt) is (given, h) k = absurd h
  need_goes w (Priced rows) (Err e) is h k = declines (need w.now) e k (λ l f. stage_21 (is_blank l.stage) (need_fault T₀ w.now) (Priced rows) (Need w) d'.sheet.stage e (ap is_blank (at (Priced rows) is l f).0) h)

  pub price_goes : (n : ℕ) (w : Bor (List ℤ)) (x : Stage) (r : Result (Unit {0}) Decline) → d.sheet.stage ≡ x → CallEntered T₀ x (Price n w) d'.sheet.stage r → KeptAtDecline d.sheet d'.sheet r → GoesOn mean d d' (price n w.now) (Enters (price n w.now) r)
  price_goes n w (Needed needs) (Ok tt) is (Some rows, h) k = absurd h
  price_goes n w (Needed needs) (Ok tt) is (None, h) k =
      accepted mean d d' (price n w.now) same_fleet same_periods same_weight
      (λ l kept f.
      let here = at (Needed needs) is l f in
      (check_yes (is_needed l.stage) 21 0 (price_fault T₀ n w.now) (ap is_needed here.0) ∙ h.3, λ _ wrong. wrong, price_put m₀ T₀ W₀ l n w.now d.sheet d'.sheet needs h.0 kept f (ap is_priced here.0) same here.1 h.1 h.2))
  price_goes n w (Needed needs) (Err e) is h k =
      declines (price n w.now) e k
      (λ l f. held_by (check (is_needed l.stage) 21 0 (price_fault T₀ n w.now)) (price_fault T₀ n w.now) e (check_yes (is_needed l.stage) 21 0 (price_fault T₀ n w.now) (ap is_needed (at (Needed needs) is l f).0)) (made_no (price_fault T₀ n w.now) (PriceRowOf T₀ n w.now) e h.1))
  price_goes n w Blank (Ok tt) is (given, h) k = absurd h
  price_goes n w Blank (Err e) is h k = declines (price n w.now) e k (λ l f. stage_21 (is_needed l.stage) (price_fault T₀ n w.now) Blank (Price n w) d'.sheet.stage e (ap is_needed (at Blank is l f)) h)
  price_goes n w (Priced rows) (Ok tt) is (given, h) k = absurd h
  price_goes n w (Priced rows) (Err e) is h k = declines (price n w.now) e k (λ l f. stage_21 (is_needed l.stage) (price_fault T₀ n w.now) (Priced rows) (Price n w) d'.sheet.stage e (ap is_needed (at (Priced rows) is l f).0) h)
