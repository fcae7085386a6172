-- What outages do to a unit's schedules, and which outages are declined. Assumes nothing.
use Rattle.std.proofs.Common.{◌≡◌, ◌≢◌, ℕ, zero, suc, ◌+◌, ◌<◌, ◌≤◌, Bool, true, false, cond, ◌&&◌, ◌↔◌, inl, inr, eqb, ltb, leb, List, [], ◌∷◌, ℤ, pos, ◌+ℤ◌, Some, None, Option, refl, sym, ap, subst, ◌∙◌, arith}
use Rattle.std.specs.List.{Any}
use Rattle.std.proofs.lemmas.Bool.{true≢false, and_parts, cond-true}
use Rattle.std.proofs.lemmas.Bool.Decides.{nat_tests}
use Rattle.std.proofs.lemmas.List.Folds.{Any-from_list_any, list_any-from_Any}
use Rattle.std.proofs.lemmas.Int.{ints}
use Rattle.terms.specs.declared.entry.Entry.{Entry}
use Rattle.fleet.specs.declared.records.Range.{Range}
use Rattle.fleet.specs.Units.{UnitModel, among, holds}
use Rattle.fleet.specs.Schedules.{AllowedFrom, cost_from}
use Rattle.fleet_kinds.specs.declared.outages.Outage.{Outage}
use Rattle.fleet_kinds.specs.OutageLists.{covers, out, only_zero, out_unit, Covers, output_in, WhenOutLaw, outage_fault, IsBad, OutageLaw}

-- one step: an arc that only keeps the output 0 where b holds
abbrev kept : Bool → Option Range → Option Range
kept b o = cond b (only_zero o) o

abbrev zero_range : Range
zero_range = record { lo = pos 0; hi = pos 0 }

in_zero : (x : ℤ) → among zero_range x ≡ true → x ≡ pos 0
in_zero x h = grind (arith, ints)

zero_holds : (o : Option Range) (x : ℤ) → holds (only_zero o) x ≡ true → (holds o x ≡ true) × (x ≡ pos 0)
zero_holds o x = by (holds o (pos 0)) refl
  where
    by : (h : Bool) → holds o (pos 0) ≡ h → holds (cond h (Some zero_range) None) x ≡ true → (holds o x ≡ true) × (x ≡ pos 0)
    by true e k = let z = in_zero x k in (subst (λ y. holds o y ≡ true) (sym z) e, z)
    by false e k = absurd (true≢false (sym k))

holds_zero : (o : Option Range) → holds o (pos 0) ≡ true → holds (only_zero o) (pos 0) ≡ true
holds_zero o e = ap (λ h. holds (cond h (Some zero_range) None) (pos 0)) e

step_kept : (b : Bool) (o : Option Range) (x : ℤ) → holds (kept b o) x ≡ true → (holds o x ≡ true) × (b ≡ true → x ≡ pos 0)
step_kept true o x h = let k = zero_holds o x h in (k.0, λ _. k.1)
step_kept false o x h = (h, λ e. absurd (true≢false (sym e)))

kept_step : (b : Bool) (o : Option Range) (x : ℤ) → holds o x ≡ true → (b ≡ true → x ≡ pos 0) → holds (kept b o) x ≡ true
kept_step true o x h z =
    let e = z refl in
    subst (λ y. holds (only_zero o) y ≡ true) (sym e) (holds_zero o (subst (λ y. holds o y ≡ true) e h))
kept_step false o x h z = h

step_cost : (b : Bool) (o : Option Range) (x c : ℤ) → holds (kept b o) x ≡ true → cond b (cond (holds (only_zero o) x) c (pos 0)) c ≡ c
step_cost true o x c h = cond-true (holds (only_zero o) x) c (pos 0) h
step_cost false o x c h = refl

-- all steps from period t and state a
module _ (down : ℕ → Bool) (p : UnitModel) where
  allowed_below : (t a : ℕ) (es : List Entry) → AllowedFrom (out_unit down p) t a es → AllowedFrom p t a es
  allowed_below t a [] h = h
  allowed_below t a (e ∷ es) h = ((step_kept (down t) (p.arc t a e.state) e.output h.0).0, allowed_below (t + 1) e.state es h.1)

  zero_out : (t a : ℕ) (es : List Entry) → AllowedFrom (out_unit down p) t a es → (k : ℕ) → down (t + k) ≡ true → output_in es k ≡ pos 0
  zero_out t a [] h k d = refl
  zero_out t a (e ∷ es) h zero d = (step_kept (down t) (p.arc t a e.state) e.output h.0).1 (let i : t ≡ t + 0 = omega arith in ap down i ∙ d)
  zero_out t a (e ∷ es) h (suc k) d = zero_out (t + 1) e.state es h.1 k (let i : (t + 1) + k ≡ t + suc k = omega arith in ap down i ∙ d)

  allowed_out : (t a : ℕ) (es : List Entry) → AllowedFrom p t a es → ((k : ℕ) → down (t + k) ≡ true → output_in es k ≡ pos 0) → AllowedFrom (out_unit down p) t a es
  allowed_out t a [] h z = h
  allowed_out t a (e ∷ es) h z = (
    kept_step (down t) (p.arc t a e.state) e.output h.0 (λ d. z 0 (let i : t + 0 ≡ t = omega arith in ap down i ∙ d)),
    allowed_out (t + 1) e.state es h.1 (λ k d. z (suc k) (let i : t + suc k ≡ (t + 1) + k = omega arith in ap down i ∙ d)),
  )

  same_cost : (t a : ℕ) (es : List Entry) → AllowedFrom (out_unit down p) t a es → cost_from (out_unit down p) t a es ≡ cost_from p t a es
  same_cost t a [] h = refl
  same_cost t a (e ∷ es) h = λ i. step_cost (down t) (p.arc t a e.state) e.output (p.cost t a e.state e.output) h.0 i +ℤ same_cost (t + 1) e.state es h.1 i

-- the test of an outage that covers the period
covers_test : (u t : ℕ) (o : Outage) → Covers u t o → covers u t o ≡ true
covers_test u t o c = let a = c.unit in let b = c.first in let d = c.last in grind (arith, nat_tests)

test_covers : (u t : ℕ) (o : Outage) → covers u t o ≡ true → Covers u t o
test_covers u t o h =
    let p = and_parts (eqb o.unit u) _ h in
    let q = and_parts (leb o.first t) _ p.1 in
    record { unit = grind (arith, nat_tests); first = grind (arith, nat_tests); last = grind (arith, nat_tests) }

is_out : (os : List Outage) (u t : ℕ) → Any (Covers u t) os → out os u t ≡ true
is_out os u t h = list_any-from_Any (covers u t) os (h.0, h.1, h.2, h.3, covers_test u t h.1 h.4)

out_is : (os : List Outage) (u t : ℕ) → out os u t ≡ true → Any (Covers u t) os
out_is os u t e = let h = Any-from_list_any (covers u t) os e in (h.0, h.1, h.2, h.3, test_covers u t h.1 h.4)

pub when_out_law : WhenOutLaw
when_out_law = record {
  units = λ os m. refl;
  states = λ os m u. refl;
  start = λ os m u. refl;
  ends = λ os m u a. refl;
  entry = λ os m u t a e h. step_cost (out os u t) ((m.model u).arc t a e.state) e.output ((m.model u).cost t a e.state e.output) h;
  goes = λ os m u t a e. (
    λ h. let k = step_kept (out os u t) ((m.model u).arc t a e.state) e.output h in (k.0, λ o. k.1 (is_out os u t o)),
    λ w. kept_step (out os u t) ((m.model u).arc t a e.state) e.output w.0 (λ d. w.1 (out_is os u t d)),
  );
  allowed = λ os m u es. (
    λ h. (allowed_below (out os u) (m.model u) 0 (m.model u).start es h, λ t o. zero_out (out os u) (m.model u) 0 (m.model u).start es h t (let i : 0 + t ≡ t = omega arith in ap (out os u) i ∙ is_out os u t o)),
    λ w. allowed_out (out os u) (m.model u) 0 (m.model u).start es w.0 (λ t d. w.1 t (out_is os u t (let i : t ≡ 0 + t = omega arith in ap (out os u) i ∙ d))),
  );
  cost = λ os m u es h. same_cost (out os u) (m.model u) 0 (m.model u).start es h;
}

-- what is wrong with one more outage, case by case
data OutageCase (units count : ℕ) (o : Outage) (f : Option ℕ) : Type 0 where
  full : 16 ≤ count → f ≡ Some 13 → OutageCase units count o f
  bad : count < 16 → IsBad units o → f ≡ Some 14 → OutageCase units count o f
  fine : count < 16 → o.unit < units → o.first ≤ o.last → o.last ≤ 47 → f ≡ None → OutageCase units count o f

abbrev number_or : Option ℕ → ℕ
number_or None = 0
number_or (Some n) = n

other_number : {P : Type 0} (f g h : Option ℕ) → f ≡ g → f ≡ h → number_or g ≢ number_or h → P
other_number f g h e k n = absurd (n (ap number_or (sym e ∙ k)))

not_bad : (units : ℕ) (o : Outage) → o.unit < units → o.first ≤ o.last → o.last ≤ 47 → IsBad units o → ⊥
not_bad units o a b c (inl h) = omega arith
not_bad units o a b c (inr (inl h)) = omega arith
not_bad units o a b c (inr (inr h)) = omega arith

module _ (units count : ℕ) (o : Outage) where
  outage_case : OutageCase units count o (outage_fault units count o)
  outage_case = by (ltb count 16) refl (ltb o.unit units) refl (leb o.first o.last) refl (leb o.last 47) refl
    where
      by : (r : Bool) → ltb count 16 ≡ r → (u : Bool) → ltb o.unit units ≡ u → (a : Bool) → leb o.first o.last ≡ a → (b : Bool) → leb o.last 47 ≡ b → OutageCase units count o (cond r (cond (u && (a && b)) None (Some 14)) (Some 13))
      by false e u f a g b h = full (grind (arith, nat_tests)) refl
      by true e false f a g b h = bad (grind (arith, nat_tests)) (inl (grind (arith, nat_tests))) refl
      by true e true f false g b h = bad (grind (arith, nat_tests)) (inr (inl (grind (arith, nat_tests)))) refl
      by true e true f true g false h = bad (grind (arith, nat_tests)) (inr (inr (grind (arith, nat_tests)))) refl
      by true e true f true g true h = fine (grind (arith, nat_tests)) (grind (arith, nat_tests)) (grind (arith, nat_tests)) (grind (arith, nat_tests)) refl

  full_exactly : (f : Option ℕ) → OutageCase units count o f → (f ≡ Some 13) ↔ (16 ≤ count)
  full_exactly f (full c e) = (λ _. c, λ _. e)
  full_exactly f (bad c w e) = (λ h. other_number f _ _ e h (λ z. omega arith), λ h. absurd (omega arith))
  full_exactly f (fine c u a b e) = (λ h. other_number f _ _ e h (λ z. omega arith), λ h. absurd (omega arith))

  bad_exactly : (f : Option ℕ) → OutageCase units count o f → (f ≡ Some 14) ↔ ((count < 16) × IsBad units o)
  bad_exactly f (full c e) = (λ h. other_number f _ _ e h (λ z. omega arith), λ h. let r = h.0 in absurd (omega arith))
  bad_exactly f (bad c w e) = (λ _. (c, w), λ _. e)
  bad_exactly f (fine c u a b e) = (λ h. other_number f _ _ e h (λ z. omega arith), λ h. absurd (not_bad units o u a b h.1))

  none_exactly : (f : Option ℕ) → OutageCase units count o f → (f ≡ None) ↔ ((count < 16) × (o.unit < units) × (o.first ≤ o.last) × (o.last ≤ 47))
  none_exactly f (full c e) = (λ h. other_number f _ _ e h (λ z. omega arith), λ h. let r = h.0 in absurd (omega arith))
  none_exactly f (bad c w e) = (λ h. other_number f _ _ e h (λ z. omega arith), λ h. absurd (not_bad units o h.1 h.2 h.3 w))
  none_exactly f (fine c u a b e) = (λ _. (c, u, a, b), λ _. e)

pub outage_law : OutageLaw
outage_law = record {
  full = λ units count o. full_exactly units count o (outage_fault units count o) (outage_case units count o);
  bad = λ units count o. bad_exactly units count o (outage_fault units count o) (outage_case units count o);
  none = λ units count o. none_exactly units count o (outage_fault units count o) (outage_case units count o);
}
