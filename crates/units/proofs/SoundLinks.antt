-- A unit by its states is sound where its numbers are within bounds. Assumes nothing.
use Rattle.std.proofs.Common.{◌≡◌, ℕ, ◌<◌, ◌≤◌, true, false, ℤ, pos, Some, None, nat_lt, sym, subst, inl, inr}
use Rattle.std.proofs.lemmas.Bool.{cases_Bool, cond-true, cond-false, and_parts, and_left, and_right, le-ltb, ltb-true}
use Rattle.terms.specs.Numbers.{Near}
use Rattle.terms.proofs.Bounds.{near_zero}
use Rattle.fleet.specs.Units.{SoundUnit, SoundArc, among, holds}
use Rattle.units.specs.Links.{Links, joined, link_arc, model_of}
use Rattle.units.proofs.Follow.{held}

pub record SoundLinks (l : Links) : Type 0 where
  pub some_state : 1 ≤ l.states
  pub few_states : l.states ≤ 80
  pub starts : l.start < l.states
  pub outputs : (a b : ℕ) → a < l.states → b < l.states → l.linked a b ≡ true → SoundArc (Some (l.outputs a b))
  pub costs : (a b : ℕ) (q : ℤ) → a < l.states → b < l.states → l.linked a b ≡ true → among (l.outputs a b) q ≡ true → Near 500000000 (l.charge a b q)

module _ (l : Links) (s : SoundLinks l) where
  apart : (t a b : ℕ) → joined l t a b ≡ false → link_arc l t a b ≡ None
  apart t a b z = cond-false (joined l t a b) (Some (l.outputs a b)) None z

  arcs : (t a b : ℕ) → SoundArc (link_arc l t a b)
  arcs t a b =
      elim (cases_Bool (joined l t a b)) [
        | inl y ↦
            let p = and_parts (nat_lt t 48) _ y in
            let both = and_parts (nat_lt a l.states) _ p.1 in
            let last = and_parts (nat_lt b l.states) _ both.1 in
            subst SoundArc (sym (cond-true (joined l t a b) (Some (l.outputs a b)) None y)) (s.outputs a b (ltb-true a l.states both.0) (ltb-true b l.states last.0) last.1)
        | inr z ↦ subst SoundArc (sym (apart t a b z)) tt
      ]

  costs : (t a b : ℕ) (q : ℤ) → Near 500000000 ((model_of l).cost t a b q)
  costs t a b q =
      elim (cases_Bool (holds (link_arc l t a b) q)) [
        | inl y ↦ let h = held l t a b q y in subst (Near 500000000) (sym h.cost) (s.costs a b q h.from h.to h.linked h.among)
        | inr z ↦ subst (Near 500000000) (sym (cond-false (holds (link_arc l t a b) q) (l.charge a b q) (pos 0) z)) (near_zero 500000000)
      ]

  pub sound_model : SoundUnit (model_of l)
  sound_model = record {
    some_state = s.some_state;
    few_states = s.few_states;
    starts = s.starts;
    arcs = arcs;
    no_period = λ t a b i. apart t a b (and_left (nat_lt t 48) _ (le-ltb t 48 i));
    no_from = λ t a b i. apart t a b (and_right (nat_lt t 48) _ (and_left (nat_lt a l.states) _ (le-ltb a l.states i)));
    no_to = λ t a b i. apart t a b (and_right (nat_lt t 48) _ (and_right (nat_lt a l.states) _ (and_left (nat_lt b l.states) _ (le-ltb b l.states i))));
    costs = costs;
    no_cost = λ t a b q z. cond-false (holds (link_arc l t a b) q) (l.charge a b q) (pos 0) z;
    no_end = λ a i. and_left (nat_lt a l.states) _ (le-ltb a l.states i);
  }
