-- Opening a docket. Assumes nothing.
use Rattle.std.proofs.Common.{◌≢◌, inl, inr, ◌≡◌, ℕ, ◌<◌, ◌≤◌, not, ◌&&◌, eqb, leb, ◌⊎◌, get_or, pos, None, Option, sym, refl, ap, ◌∙◌, subst, arith}
use Rattle.std.proofs.lemmas.Bool.Decides.{nat_tests}
use Rattle.terms.proofs.Sums.{sum_to_zero}
use Rattle.fleet.specs.Units.{Meaning}
use Rattle.settlement.specs.declared.sheet.Sheet.{Sheet}
use Rattle.settlement.specs.declared.standing.Standing.{Standing}
use Rattle.settlement.specs.Ledger.{fresh}
use Rattle.settlement.specs.Sheets.{BlankSheet}
use Rattle.settlement.specs.Follow.{StageFollows, UnitFollows, SheetFollows}
use Rattle.settlement.specs.Calls.{open_fault, Opens, unopened_by, OpenLaw}
use Rattle.settlement.specs.Reasons.{nothing}
use Rattle.settlement.proofs.Chains.{Test, Chain, chain_end, chain_as, chain_check, only_held}
use Rattle.settlement.proofs.SheetFacts.{always}

range_test : (T W : ℕ) → Test ((leb 1 T && leb T 48) && (leb 1 W && leb W 1000)) (((1 ≤ T) × (T ≤ 48)) × ((1 ≤ W) × (W ≤ 1000))) (((T < 1) ⊎ (48 < T)) ⊎ ((W < 1) ⊎ (1000 < W)))
range_test T W = record {
  good = λ e. ((grind (arith, nat_tests), grind (arith, nat_tests)), (grind (arith, nat_tests), grind (arith, nat_tests)));
  bad = λ e. grind (arith, nat_tests);
  never = λ g h. grind arith;
}

some_test : (n : ℕ) → Test (not (eqb n 0)) (n ≢ 0) (n ≡ 0)
some_test n = record { good = λ e h. grind (arith, nat_tests); bad = λ e. grind (arith, nat_tests); never = λ g h. g h }

chain : (m : Meaning) (T W : ℕ) → Chain nothing (open_fault m T W) (Opens m T W) (unopened_by m T W)
chain m T W =
    chain_as
    (chain_check 11 0 (some_test m.units)
    (chain_check 12 0 (range_test T W) chain_end))
    (λ h. record { units = h.0; periods = h.1.0.0; weight = h.1.0.1 })
    (λ h. (h.units, ((h.periods, h.weight), tt)))

pub open_law : OpenLaw
open_law = record {
  none = λ m T W. let t = chain m T W in (t.none, t.free);
  some = λ m T W f. let t = chain m T W in (λ e. t.to f (inl e), λ h. only_held (open_fault m T W) f (t.from f h));
}

pub by_11 : (m : Meaning) (T W : ℕ) → m.units ≡ 0 → unopened_by m T W (record { number = 11; place = 0 })
by_11 m T W e = inl (refl, (refl, e))

pub by_12 : (m : Meaning) (T W : ℕ) → (m.units ≡ 0 → ⊥) → ((T < 1) ⊎ (48 < T)) ⊎ ((W < 1) ⊎ (1000 < W)) → unopened_by m T W (record { number = 12; place = 0 })
by_12 m T W e r = inr (λ p h. e h.1, inl (refl, (refl, r)))

pub blank_follows : (m : Meaning) (T : ℕ) (s : Sheet) → BlankSheet s → SheetFollows m T fresh s
blank_follows m T s b =
    record {
      stage_is = subst (StageFollows T fresh) (sym b.stage_is) refl;
      units_are = λ u. subst (λ us. UnitFollows m T fresh u (get_or us u None)) (sym b.units_are) (subst (UnitFollows m T fresh u) (sym (always {A = Option Standing} 64 u None)) refl);
      runs_are = λ t. ap (λ xs. get_or xs t (pos 0)) b.runs_are ∙ always 48 t (pos 0) ∙ sym (sum_to_zero m.units);
      mixes_are = λ t. ap (λ xs. get_or xs t (pos 0)) b.mixes_are ∙ always 48 t (pos 0);
      gap_is = b.gap_is;
    }
