-- A docket goes on following the ledger with one more call. Assumes nothing.
use Rattle.std.proofs.Common.{◌≡◌, ℕ, ◌≤◌, List, [], ◌∷◌, ◌++◌, Some, None, Ok, Err, Option, Result, sym, refl, ap, ◌∙◌, subst, inl, inr}
use native.Mathlib.Bridge.{le_prop}
use Rattle.terms.specs.declared.decline.Decline.{Decline}
use Rattle.fleet.specs.Units.{Meaning}
use Rattle.fleet.specs.Rows.{Fault}
use Rattle.settlement.specs.declared.sheet.Sheet.{Sheet}
use Rattle.settlement.specs.declared.docket.Docket.{Docket}
use Rattle.settlement.specs.Ledger.{Ledger, Call, held_back, entered, unless, step, ledger}
use Rattle.settlement.specs.Reasons.{Declined, Answered, wrong, KeptAtDecline}
use Rattle.settlement.specs.Follow.{SheetFollows, Follows, GoesOn}
use Rattle.settlement.specs.Calls.{Enters}
use Rattle.settlement.proofs.Ledgers.{Kept, kept, more, some_none}
use Rattle.settlement.proofs.Holds.{Held}

stays : (m : Meaning) (T W : ℕ) (l : Ledger) (c : Call) (f : Fault) → held_back m T W l c ≡ Some f → step m T W l c ≡ l
stays m T W l c f e = ap (λ o. unless m T W o (entered m T W l c) l) e

enters : (m : Meaning) (T W : ℕ) (l : Ledger) (c : Call) → held_back m T W l c ≡ None → step m T W l c ≡ entered m T W l c
enters m T W l c e = ap (λ o. unless m T W o (entered m T W l c) l) e

either_way : (m : Meaning) (T W : ℕ) (l : Ledger) (c : Call) (o : Option Fault) → entered m T W l c ≡ l → unless m T W o (entered m T W l c) l ≡ l
either_way m T W l c None e = e
either_way m T W l c (Some f) e = refl

-- what holds a call back is its answer
pub held_answer : {X : Type 0} (m : Meaning) (T W : ℕ) (l : Ledger) (c : Call) (Is : X → Type 0) (d : Decline) → Held (held_back m T W l c) d → Answered (Declined m T W l c) Is (Err d)
held_answer m T W l c Is d h = (h.fault, inl h.is, h.says)

-- nothing is wrong with what nothing holds back
pub no_fault : (m : Meaning) (T W : ℕ) (l : Ledger) (c : Call) → held_back m T W l c ≡ None → ((f : Fault) → wrong m T W l c f → ⊥) → (f : Fault) → Declined m T W l c f → ⊥
no_fault m T W l c e h f (inl held) = some_none f (sym held ∙ e)
no_fault m T W l c e h f (inr late) = h f late.1

module _ {F : Type 0} (mean : F → Meaning) (d : Docket F) where
  abbrev m₀ : Meaning
  m₀ = mean d.fleet

  abbrev T₀ : ℕ
  T₀ = d.periods.count

  abbrev W₀ : ℕ
  W₀ = d.weight

  -- what holds at the docket's own fleet, periods and weight holds at those that it follows
  at_own : (P : Meaning → ℕ → ℕ → Type 0) (m : Meaning) (T W : ℕ) → m₀ ≡ m → T₀ ≡ T → W₀ ≡ W → P m₀ T₀ W₀ → P m T W
  at_own P m T W e f g p = subst (λ x. P x T W) e (subst (λ x. P m₀ x W) f (subst (λ x. P m₀ T₀ x) g p))

  -- a decline leaves the docket, or gives it back alike
  pub refused_alike : (d' : Docket F) (c : Call) (e : Decline) → d'.fleet ≡ d.fleet → d'.periods.count ≡ T₀ → d'.weight ≡ W₀ → d'.sheet ≡ d.sheet → ((l : Ledger) → SheetFollows m₀ T₀ l d.sheet → Held (held_back m₀ T₀ W₀ l c) e) → GoesOn mean d d' c (Enters c (Err e))
  refused_alike d' c e same_fleet same_periods same_weight same_sheet say m T W cs f =
      at_own
      (λ m T W. SheetFollows m T (ledger m T W cs) d.sheet → mean d'.fleet ≡ m → d'.periods.count ≡ T → d'.weight ≡ W → Follows mean m T W (cs ++ (c ∷ [])) d' × Enters c (Err e) m T W (ledger m T W cs))
      m T W f.fleet_is f.periods_are f.weight_is
      (λ s a b g.
      let held = say (ledger m₀ T₀ W₀ cs) s in
      let same = more m₀ T₀ W₀ cs c ∙ stays m₀ T₀ W₀ (ledger m₀ T₀ W₀ cs) c held.fault held.is in (
        record { fleet_is = a; periods_are = b; weight_is = g; sheet_is = subst (λ l. SheetFollows m₀ T₀ l d'.sheet) (sym same) (subst (SheetFollows m₀ T₀ (ledger m₀ T₀ W₀ cs)) (sym same_sheet) s) },
        held_answer {X = Unit {0}} m₀ T₀ W₀ (ledger m₀ T₀ W₀ cs) c (λ _. Unit {0}) e held,
      ))
      f.sheet_is (ap mean same_fleet ∙ f.fleet_is) (same_periods ∙ f.periods_are) (same_weight ∙ f.weight_is)

  pub refused : (c : Call) (e : Decline) → ((l : Ledger) → SheetFollows m₀ T₀ l d.sheet → Held (held_back m₀ T₀ W₀ l c) e) → GoesOn mean d d c (Enters c (Err e))
  refused c e say = refused_alike d c e refl refl refl refl say

  pub accepted : (d' : Docket F) (c : Call) → d'.fleet ≡ d.fleet → d'.periods.count ≡ T₀ → d'.weight ≡ W₀ → ((l : Ledger) → Kept m₀ T₀ W₀ l → SheetFollows m₀ T₀ l d.sheet → (held_back m₀ T₀ W₀ l c ≡ None) × ((f : Fault) → wrong m₀ T₀ W₀ l c f → ⊥) × SheetFollows m₀ T₀ (entered m₀ T₀ W₀ l c) d'.sheet) → GoesOn mean d d' c (Enters c (Ok tt))
  accepted d' c same_fleet same_periods same_weight say m T W cs f =
      at_own
      (λ m T W. SheetFollows m T (ledger m T W cs) d.sheet → mean d'.fleet ≡ m → d'.periods.count ≡ T → d'.weight ≡ W → Follows mean m T W (cs ++ (c ∷ [])) d' × Enters c (Ok tt) m T W (ledger m T W cs))
      m T W f.fleet_is f.periods_are f.weight_is
      (λ s a b g.
      let put = say (ledger m₀ T₀ W₀ cs) (kept m₀ T₀ W₀ cs) s in
      let next = more m₀ T₀ W₀ cs c ∙ enters m₀ T₀ W₀ (ledger m₀ T₀ W₀ cs) c put.0 in (
        record { fleet_is = a; periods_are = b; weight_is = g; sheet_is = subst (λ l. SheetFollows m₀ T₀ l d'.sheet) (sym next) put.2 },
        (no_fault m₀ T₀ W₀ (ledger m₀ T₀ W₀ cs) c put.0 put.1, tt),
      ))
      f.sheet_is (ap mean same_fleet ∙ f.fleet_is) (same_periods ∙ f.periods_are) (same_weight ∙ f.weight_is)

  -- a question leaves the docket and the ledger
  pub asked : (c : Call) (Says : Meaning → ℕ → ℕ → Ledger → Type 0) → ((l : Ledger) → entered m₀ T₀ W₀ l c ≡ l) → ((cs : List Call) → SheetFollows m₀ T₀ (ledger m₀ T₀ W₀ cs) d.sheet → Says m₀ T₀ W₀ (ledger m₀ T₀ W₀ cs)) → GoesOn mean d d c Says
  asked c Says leaves say m T W cs f =
      at_own
      (λ m T W. SheetFollows m T (ledger m T W cs) d.sheet → m₀ ≡ m → T₀ ≡ T → W₀ ≡ W → Follows mean m T W (cs ++ (c ∷ [])) d × Says m T W (ledger m T W cs))
      m T W f.fleet_is f.periods_are f.weight_is
      (λ s a b g.
      let l = ledger m₀ T₀ W₀ cs in
      let same = more m₀ T₀ W₀ cs c ∙ either_way m₀ T₀ W₀ l c (held_back m₀ T₀ W₀ l c) (leaves l) in (
        record { fleet_is = a; periods_are = b; weight_is = g; sheet_is = subst (λ l. SheetFollows m₀ T₀ l d.sheet) (sym same) s },
        say cs s,
      ))
      f.sheet_is f.fleet_is f.periods_are f.weight_is

-- with the sheet as it was, the docket is as it was
pub docket_kept : {F Y : Type 0} (d : Docket F) (s : Sheet) (r : Result Y Decline) (a : 1 ≤ d.weight) (b : d.weight ≤ 1000) → KeptAtDecline d.sheet s r → KeptAtDecline d (record { fleet = d.fleet; periods = d.periods; weight = d.weight; sheet = s; some = a; most = b }) r
docket_kept d s (Ok y) a b k = tt
docket_kept d s (Err e) a b k =
    ap (λ x. record { fleet = d.fleet; periods = d.periods; weight = d.weight; sheet = x; some = a; most = b }) k
    ∙ ap (λ x. record { fleet = d.fleet; periods = d.periods; weight = d.weight; sheet = d.sheet; some = x; most = b }) (le_prop a d.some)
    ∙ ap (λ x. record { fleet = d.fleet; periods = d.periods; weight = d.weight; sheet = d.sheet; some = d.some; most = x }) (le_prop b d.most)
