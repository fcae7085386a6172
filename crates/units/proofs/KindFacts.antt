-- From the schedules of a unit by its states to its kind. Assumes nothing.
use Rattle.std.proofs.Common.{◌≡◌, ℕ, ◌<◌, Bool, true, false, cond, ◌&&◌, List, ℤ, pos, Some, None, Option, nat_lt, refl, ap, subst}
use Rattle.std.proofs.lemmas.Bool.{lt-ltb}
use Rattle.fleet.specs.declared.records.Range.{Range}
use Rattle.fleet.specs.Units.{holds}
use Rattle.units.specs.Links.{Links, link_arc, model_of}
use Rattle.fleet.specs.Units.{UnitModel}
use Rattle.units.specs.Agree.{Agrees, open_ended, OfKind, SameStates}

and_sure : (b c : Bool) → c ≡ true → (b && c) ≡ b
and_sure true c e = e
and_sure false c e = refl

-- a unit that may end in every state is open-ended
pub ends_all : (l : Links) → ((a : ℕ) → l.ends a ≡ true) → model_of l ≡ open_ended (model_of l)
ends_all l e = λ i. record { states = l.states; start = l.start; arc = link_arc l; cost = (model_of l).cost; ends = λ a. and_sure (nat_lt a l.states) (l.ends a) (e a) i }

module _ (l : Links) where
  arcs_alike : (t a b : ℕ) → t < 48 → link_arc l t a b ≡ link_arc l 0 a b
  arcs_alike t a b i = ap (λ c. cond (c && (nat_lt a l.states && (nat_lt b l.states && l.linked a b))) (Some (l.outputs a b)) None) (lt-ltb t 48 i)

  pub of_kind : (R S : List ℤ → Type 0) (I : List ℤ → ℕ → ℕ → Type 0) (f : List ℤ → ℤ) → Agrees (model_of l) R I f → Agrees (open_ended (model_of l)) S I f → OfKind (model_of l) l.states R S I f
  of_kind R S I f a b = record {
    number_is = refl;
    schedules = a;
    so_far = b;
    same_arcs = arcs_alike;
    same_costs = λ t a b q i. ap (λ (o : Option Range). cond (holds o q) (l.charge a b q) (pos 0)) (arcs_alike t a b i);
  }

  pub of_open_kind : (R : List ℤ → Type 0) (I : List ℤ → ℕ → ℕ → Type 0) (f : List ℤ → ℤ) → ((a : ℕ) → l.ends a ≡ true) → Agrees (model_of l) R I f → OfKind (model_of l) l.states R R I f
  of_open_kind R I f e a = of_kind R R I f a (subst (λ p. Agrees p R I f) (ends_all l e) a)
