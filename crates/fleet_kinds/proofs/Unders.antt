-- One outage more in the list is one outage over what the others leave. Assumes nothing.
use Rattle.std.proofs.Common.{◌≡◌, ℕ, Bool, true, false, cond, ◌||◌, List, [], ◌∷◌, ◌++◌, ℤ, pos, Some, None, Option, refl, sym, ap, ◌∙◌}
use Rattle.std.proofs.lemmas.List.Folds.{list_any-append}
use Rattle.fleet.specs.declared.records.Range.{Range}
use Rattle.fleet.specs.Units.{Meaning, holds}
use Rattle.fleet_kinds.specs.declared.outages.Outage.{Outage}
use Rattle.fleet_kinds.specs.OutageLists.{covers, out, only_zero, out_meaning}

-- keeping the output 0 alone twice is keeping it once
twice : (x : Option Range) → only_zero (only_zero x) ≡ only_zero x
twice x = by (holds x (pos 0))
  where
    by : (h : Bool) → only_zero (cond h (Some (record { lo = pos 0; hi = pos 0 })) None) ≡ cond h (Some (record { lo = pos 0; hi = pos 0 })) None
    by true = refl
    by false = refl

-- out by the first d, or by the last c
arc_under : (d c : Bool) (x : Option Range) → cond (d || c) (only_zero x) x ≡ cond c (only_zero (cond d (only_zero x) x)) (cond d (only_zero x) x)
arc_under true true x = sym (twice x)
arc_under true false x = refl
arc_under false true x = refl
arc_under false false x = refl

again : (h : Bool) (k : ℤ) → cond h k (pos 0) ≡ cond h (cond h k (pos 0)) (pos 0)
again true k = refl
again false k = refl

cost_under : (d c : Bool) (x : Option Range) (q k : ℤ) → cond (d || c) (cond (holds (only_zero x) q) k (pos 0)) k ≡ cond c (cond (holds (only_zero (cond d (only_zero x) x)) q) (cond d (cond (holds (only_zero x) q) k (pos 0)) k) (pos 0)) (cond d (cond (holds (only_zero x) q) k (pos 0)) k)
cost_under true true x q k =
    again (holds (only_zero x) q) k
    ∙ ap (λ y. cond (holds y q) (cond (holds (only_zero x) q) k (pos 0)) (pos 0)) (sym (twice x))
cost_under true false x q k = refl
cost_under false true x q k = refl
cost_under false false x q k = refl

module _ (os : List Outage) (o : Outage) (m : Meaning) where
  arc_more : (u t a b : ℕ) → ((out_meaning (os ++ (o ∷ [])) m).model u).arc t a b ≡ ((out_meaning (o ∷ []) (out_meaning os m)).model u).arc t a b
  arc_more u t a b =
      ap (λ e. cond e (only_zero ((m.model u).arc t a b)) ((m.model u).arc t a b)) (list_any-append (covers u t) os (o ∷ []))
      ∙ arc_under (out os u t) (out (o ∷ []) u t) ((m.model u).arc t a b)

  cost_more : (u t a b : ℕ) (q : ℤ) → ((out_meaning (os ++ (o ∷ [])) m).model u).cost t a b q ≡ ((out_meaning (o ∷ []) (out_meaning os m)).model u).cost t a b q
  cost_more u t a b q =
      ap (λ e. cond e (cond (holds (only_zero ((m.model u).arc t a b)) q) ((m.model u).cost t a b q) (pos 0)) ((m.model u).cost t a b q)) (list_any-append (covers u t) os (o ∷ []))
      ∙ cost_under (out os u t) (out (o ∷ []) u t) ((m.model u).arc t a b) q ((m.model u).cost t a b q)

  pub under_more : out_meaning (os ++ (o ∷ [])) m ≡ out_meaning (o ∷ []) (out_meaning os m)
  under_more = λ i. record {
    units = m.units;
    model = λ u. record {
      states = (m.model u).states;
      start = (m.model u).start;
      arc = λ t a b. arc_more u t a b i;
      cost = λ t a b q. cost_more u t a b q i;
      ends = (m.model u).ends;
    };
  }

  -- said of the list that stands after it
  pub meaning_more : (xs : List Outage) → xs ≡ os ++ (o ∷ []) → out_meaning xs m ≡ out_meaning (o ∷ []) (out_meaning os m)
  meaning_more xs e = ap (λ l. out_meaning l m) e ∙ under_more
