-- What the docket's checks say of the ledger. Assumes nothing.
use Rattle.std.proofs.Common.{◌≡◌, ℕ, ◌<◌, ◌≤◌, Bool, true, false, eqb, ltb, List, length, Some, None, Ok, Err, Option, sym, refl, ap, ◌∙◌, subst, inl, inr, arith}
use Rattle.std.proofs.lemmas.Bool.Decides.{nat_tests}
use Rattle.terms.specs.Declines.{Says}
use Rattle.terms.specs.declared.decline.Decline.{Decline}
use Rattle.terms.specs.declared.decline.Layer.TheVariants.{Docket}
use Rattle.terms.specs.declared.entry.Entry.{Entry}
use Rattle.fleet.specs.declared.rows.PriceRow.{PriceRow}
use Rattle.fleet.specs.Units.{Meaning, UnitModel}
use Rattle.fleet.specs.Schedules.{Prices, Schedule, gain_of}
use Rattle.fleet.specs.Rows.{Fault, prices_of, PriceRowOf, periods_of}
use Rattle.settlement.specs.declared.stages.Stage.{Stage}
use Rattle.settlement.specs.declared.stages.Stage.TheVariants.{Blank, Needed, Priced}
use Rattle.settlement.specs.declared.counted.Counted.{Counted}
use Rattle.settlement.specs.declared.standing.Standing.{Standing}
use Rattle.settlement.specs.Ledger.{Ledger, is_priced, has, check, allow, bad_at}
use Rattle.settlement.specs.Follow.{StageFollows, UnitFollows}
use Rattle.settlement.specs.Calls.{UnitPrices, Accounted, at_priced}
use Rattle.settlement.proofs.Ledgers.{first_bad, allowed_none}

-- a fault, and a decline that says it
pub record Held (o : Option Fault) (d : Decline) : Type 0 where
  pub fault : Fault
  pub is : o ≡ Some fault
  pub says : Says Docket fault.number fault.place d

pub check_no : (ok : Bool) (n p : ℕ) (o : Option Fault) (d : Decline) → ok ≡ false → Says Docket n p d → Held (check ok n p o) d
check_no ok n p o d e s = record { fault = record { number = n; place = p }; is = rw e refl; says = s }

pub check_yes : (ok : Bool) (n p : ℕ) (o : Option Fault) → ok ≡ true → check ok n p o ≡ o
check_yes ok n p o e = rw e refl

pub held_by : (o q : Option Fault) (d : Decline) → o ≡ q → Held q d → Held o d
held_by o q d e h = record { fault = h.fault; is = e ∙ h.is; says = h.says }

pub stage_priced : (T : ℕ) (l : Ledger) (s : Stage) (b : Bool) → StageFollows T l s → at_priced s ≡ b → is_priced l.stage ≡ b
stage_priced T l Blank b f e = ap is_priced f ∙ e
stage_priced T l (Needed needs) b f e = ap is_priced f.0 ∙ e
stage_priced T l (Priced rows) b f e = ap is_priced f.0 ∙ e

pub unit_below : (u n : ℕ) → u < n → ltb u n ≡ true
unit_below u n h = grind (arith, nat_tests)

unit_past : (u n : ℕ) → n ≤ u → ltb u n ≡ false
unit_past u n h = grind (arith, nat_tests)

-- 21 and 24
pub unit_declined : (m : Meaning) (T : ℕ) (l : Ledger) (s : Stage) (u : ℕ) (d : Decline) (after : Option Fault) → StageFollows T l s → UnitPrices m s u (Err d) → Held (check (is_priced l.stage) 21 u (check (ltb u m.units) 24 u after)) d
unit_declined m T l s u d after f (inl h) = check_no (is_priced l.stage) 21 u (check (ltb u m.units) 24 u after) d (stage_priced T l s false f h.0) h.1
unit_declined m T l s u d after f (inr h) =
    held_by _ (check (ltb u m.units) 24 u after) d
    (check_yes (is_priced l.stage) 21 u (check (ltb u m.units) 24 u after) (stage_priced T l s true f h.0))
    (check_no (ltb u m.units) 24 u after d (unit_past u m.units h.1) h.2)

-- the unit exists, and the prices are the ledger's
pub record UnitPassed (m : Meaning) (T : ℕ) (l : Ledger) (u : ℕ) (row : PriceRow) : Type 0 where
  pub priced : is_priced l.stage ≡ true
  pub unit : u < m.units
  pub long : (periods_of row) ≡ T
  pub prices : prices_of row ≡ l.prices
  pub next : (after : Option Fault) → check (is_priced l.stage) 21 u (check (ltb u m.units) 24 u after) ≡ after

pub unit_passed : (m : Meaning) (T : ℕ) (l : Ledger) (s : Stage) (u : ℕ) (row : PriceRow) → StageFollows T l s → UnitPrices m s u (Ok row) → UnitPassed m T l u row
unit_passed m T l s u row f h =
    let at : StageFollows T l (Priced h.0.0) = subst (StageFollows T l) h.0.1 f in
    let p : is_priced l.stage ≡ true = ap is_priced at.0 in
    let r : PriceRowOf T l.prices.over l.prices.numerators row = subst (PriceRowOf T l.prices.over l.prices.numerators) (sym h.0.2) at.2 in
    record {
      priced = p;
      unit = h.1;
      long = r.long;
      prices = r.prices;
      next = λ after. check_yes (is_priced l.stage) 21 u (check (ltb u m.units) 24 u after) p ∙ check_yes (ltb u m.units) 24 u after (unit_below u m.units h.1);
    }

same_length : (n k : ℕ) → n ≡ k → eqb n k ≡ true
same_length n k e = grind (arith, nat_tests)

other_length : (n k : ℕ) → (n ≡ k → ⊥) → eqb n k ≡ false
other_length n k e = grind (arith, nat_tests)

-- 26 and 27
pub account_declined : (p : UnitModel) (T : ℕ) (row : PriceRow) (u : ℕ) (es : List Entry) (d : Decline) (after : Option Fault) → Accounted p T row u es (Err d) → Held (check (eqb (length es) T) 26 u (allow (bad_at p es) after)) d
account_declined p T row u es d after (inl h) = check_no (eqb (length es) T) 26 u (allow (bad_at p es) after) d (other_length (length es) T h.0) h.1
account_declined p T row u es d after (inr h) =
    record {
      fault = record { number = 27; place = d.place };
      is = check_yes (eqb (length es) T) 26 u (allow (bad_at p es) after) (same_length (length es) T h.0) ∙ ap (λ o. allow o after) (first_bad p es d.place h.1);
      says = h.2;
    }

pub record AccountPassed (p : UnitModel) (T : ℕ) (r : Prices) (u : ℕ) (es : List Entry) (k : Counted) : Type 0 where
  pub scheduled : Schedule p T es
  pub gain : k.gain ≡ gain_of p r es
  pub next : (after : Option Fault) → check (eqb (length es) T) 26 u (allow (bad_at p es) after) ≡ after

pub account_passed : (p : UnitModel) (T : ℕ) (row : PriceRow) (r : Prices) (u : ℕ) (es : List Entry) (k : Counted) → prices_of row ≡ r → Accounted p T row u es (Ok k) → AccountPassed p T r u es k
account_passed p T row r u es k e h =
    record {
      scheduled = record { long = h.0; allowed = h.1 };
      gain = h.2 ∙ ap (λ x. gain_of p x es) e;
      next = λ after. check_yes (eqb (length es) T) 26 u (allow (bad_at p es) after) (same_length (length es) T h.0) ∙ ap (λ o. allow o after) (allowed_none p es h.1);
    }

-- a unit stands where the ledger has its run
pub stands_has : (m : Meaning) (T : ℕ) (l : Ledger) (u : ℕ) (o : Option Standing) → UnitFollows m T l u o → has (l.runs u) ≡ has o
stands_has m T l u None f = ap has f
stands_has m T l u (Some s) f = ap has f.ran
