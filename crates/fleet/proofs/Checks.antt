-- A schedule, entry by entry: whether it is allowed, and what it comes to. Assumes nothing.
use Rattle.std.proofs.Common.{◌≡◌, ℕ, ◌+◌, ◌*◌, ◌<◌, ◌≤◌, true, List, length, get_or, drop, ℤ, pos, ◌+ℤ◌, Err, sym, refl, ap, ◌∙◌, subst, inl, inr, arith}
use lib.IntN.{+ℤ_assoc, +ℤ_idr}
use Rattle.std.proofs.lemmas.List.{drop_more, drop_all}
use Rattle.std.proofs.lemmas.Int.{ints}
use Rattle.terms.specs.Numbers.{Near}
use Rattle.terms.specs.Declines.{Says}
use Rattle.terms.specs.declared.decline.Decline.{Decline}
use Rattle.terms.specs.declared.decline.Layer.TheVariants.{Docket}
use Rattle.terms.specs.declared.entry.Entry.{Entry}
use Rattle.fleet.specs.Units.{UnitModel, SoundUnit}
use Rattle.fleet.specs.Schedules.{Prices, Goes, AllowedFrom, Allowed, FirstBadFrom, FirstBad, cost_from, cost_of, gain_from, gain_of}
use Rattle.fleet.specs.Gains.{entry_gain}
use Rattle.fleet.specs.Answers.{Checked}
use Rattle.fleet.proofs.Arcs.{arc_within}
use Rattle.fleet.proofs.RowFacts.{gain_cons, gain_nil}

abbrev pub blank : Entry
blank = record { state = 0; output = pos 0 }

-- i entries have passed, and what is left decides and is still to be added
pub record Going (p : UnitModel) (r : Prices) (all : List Entry) (i t a : ℕ) (c g : ℤ) : Type 0 where
  pub at : t ≡ i
  pub soon : t ≤ 48
  pub ok : AllowedFrom p t a (drop i all) → Allowed p all
  pub bad : (k : ℕ) → FirstBadFrom p t a (drop i all) k → FirstBad p all k
  pub costs : c +ℤ cost_from p t a (drop i all) ≡ cost_of p all
  pub gains : g +ℤ gain_from p r t a (drop i all) ≡ gain_of p r all
  pub cheap : Near (t * 500000000) c
  pub small : Near (t * 1000000000000) g

module _ (p : UnitModel) (r : Prices) (all : List Entry) where
  pub going_next : SoundUnit p → (i t a : ℕ) (c g x y : ℤ) → i < length all → Goes p t a (get_or all i blank) → x ≡ p.cost t a (get_or all i blank).state (get_or all i blank).output → y ≡ entry_gain p r t a (get_or all i blank).state (get_or all i blank).output → Near 500000000 x → Near 1000000000000 y → Going p r all i t a c g → Going p r all (i + 1) (t + 1) (get_or all i blank).state (c +ℤ x) (g +ℤ y)
  going_next sp i t a c g x y lt goes isx isy nx ny k =
      let e = get_or all i blank in
      let es = drop (i + 1) all in
      let cut = drop_more all i blank lt in
      let back = sym cut in
      let soon = arc_within p sp t a e.state e.output goes in
      let cheap = k.cheap in
      let small = k.small in
      record {
        at = ap (λ n. n + 1) k.at;
        soon = omega arith;
        ok = λ h. k.ok (subst (AllowedFrom p t a) back (goes, h));
        bad = λ j h. k.bad j (subst (λ fs. FirstBadFrom p t a fs j) back (inr (goes, h)));
        costs = +ℤ_assoc c x (cost_from p (t + 1) e.state es) ∙ ap (λ z. c +ℤ (z +ℤ cost_from p (t + 1) e.state es)) isx ∙ ap (λ z. c +ℤ z) (sym (ap (cost_from p t a) cut)) ∙ k.costs;
        gains = +ℤ_assoc g y (gain_from p r (t + 1) e.state es) ∙ ap (λ z. g +ℤ (z +ℤ gain_from p r (t + 1) e.state es)) isy ∙ ap (λ z. g +ℤ z) (sym (ap (gain_from p r t a) cut ∙ gain_cons p r t a e es)) ∙ k.gains;
        cheap = record { low = omega (arith, ints); high = omega (arith, ints) };
        small = record { low = omega (arith, ints); high = omega (arith, ints) };
      }

  refused : (t : ℕ) → FirstBad p all t → (d : Decline) → Says Docket 27 t d → Checked p r all (Err d)
  refused t bad d says = let here = sym says.place in (subst (FirstBad p all) here bad, subst (λ k. Says Docket 27 k d) here says)

  pub going_bad : (i t a : ℕ) (c g : ℤ) → i < length all → (Goes p t a (get_or all i blank) → ⊥) → Going p r all i t a c g → (d : Decline) → Says Docket 27 t d → Checked p r all (Err d)
  going_bad i t a c g lt none k = refused t (k.bad t (subst (λ es. FirstBadFrom p t a es t) (sym (drop_more all i blank lt)) (inl (none, refl))))

  pub going_ends : (i t a : ℕ) (c g : ℤ) → length all ≤ i → p.ends a ≡ true → Going p r all i t a c g → Allowed p all × (c ≡ cost_of p all) × (g ≡ gain_of p r all)
  going_ends i t a c g done ends k =
      let nil = drop_all i all done in (
        k.ok (subst (AllowedFrom p t a) (sym nil) ends),
        sym (+ℤ_idr c) ∙ ap (λ z. c +ℤ z) (sym (ap (cost_from p t a) nil)) ∙ k.costs,
        sym (+ℤ_idr g) ∙ ap (λ z. g +ℤ z) (sym (ap (gain_from p r t a) nil ∙ gain_nil p r t a)) ∙ k.gains,
      )
