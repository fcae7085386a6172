-- A buyer is sound, and its schedules are those that take from none to all of its lots. Assumes nothing.
use Rattle.std.proofs.Common.{◌≡◌, ℕ, zero, suc, ◌≤◌, true, List, [], ◌∷◌, length, ℤ, pos, ◌+ℤ◌, neg_ℤ, ◌≤ℤ◌, slice_index_or, unsigned_abs, refl, sym, ap, ◌∙◌, suc-le-suc, le_of_suc-le-suc, arith}
use Rattle.std.proofs.lemmas.Int.{ints}
use Rattle.terms.specs.Numbers.{Near}
use Rattle.terms.proofs.Bounds.{near_zero, near_abs, near_between}
use Rattle.terms.proofs.Sums.{sum_to_first}
use Rattle.fleet.specs.Units.{among}
use Rattle.fleet.proofs.Arcs.{among_low, among_high, among_from}
use Rattle.reader.specs.declared.steps.Step.{Step}
use Rattle.reader.specs.Steps.{fair_places, lots_in}
use Rattle.units.specs.Fill.{fill}
use Rattle.units.specs.Links.{model_of}
use Rattle.units.specs.BuyerUnits.{takes, taking, buyer_links}
use Rattle.units.specs.BuyerRules.{BuyerObeys, BuyerIn, buyer_cost, BuyerRule}
use Rattle.units.proofs.Fills.{fill_small}
use Rattle.units.specs.Agree.{Agrees}
use Rattle.units.proofs.KindFacts.{of_open_kind}
use Rattle.units.proofs.Follow.{Story, Told, told_cost, Tracking, follows, reworded}
use Rattle.units.proofs.SoundLinks.{SoundLinks}

-- nothing of the past matters
abbrev story : List Step → Story (Unit {0})
story ss = record { then = λ h q. h; Keeps = λ h q. among (takes ss) q ≡ true; Ends = λ h. Unit {0}; price = λ h q. taking ss q }

abbrev go : ℕ → ℤ → ℕ
go a q = 0

tracking : (ss : List Step) → Tracking (buyer_links ss) (story ss) go (λ h a. a ≡ 0)
tracking ss = record {
  within = λ a h x. omega arith;
  moves = λ a b h q x i y o. record { to = omega arith; keeps = o; price = refl };
  moved = λ a h q x o. record { within = omega arith; linked = refl; among = o };
  next = λ a h q x o. refl;
  ends = λ a h x e. tt;
  ended = λ a h x e. refl;
}

to_all : (ss : List Step) (qs : List ℤ) → Told (story ss) tt qs → BuyerObeys ss qs
to_all ss [] o t l = absurd (omega arith)
to_all ss (q ∷ qs) o zero l = (among_low (takes ss) q o.0, among_high (takes ss) q o.0)
to_all ss (q ∷ qs) o (suc t) l = to_all ss qs o.1 t (le_of_suc-le-suc l)

from_all : (ss : List Step) (qs : List ℤ) → BuyerObeys ss qs → Told (story ss) tt qs
from_all ss [] o = tt
from_all ss (q ∷ qs) o = let h = o 0 (omega arith) in (among_from (takes ss) q h.0 h.1, from_all ss qs (λ t l. o (suc t) (suc-le-suc l)))

same_cost : (ss : List Step) (qs : List ℤ) → told_cost (story ss) tt qs ≡ buyer_cost ss qs
same_cost ss [] = refl
same_cost ss (q ∷ qs) =
    ap (λ z. taking ss q +ℤ z) (same_cost ss qs)
    ∙ sym (sum_to_first (length qs) (λ t. taking ss (slice_index_or (q ∷ qs) t (pos 0))))

buyer_agrees : (ss : List Step) → Agrees (model_of (buyer_links ss)) (BuyerObeys ss) BuyerIn (buyer_cost ss)
buyer_agrees ss =
    reworded (model_of (buyer_links ss)) (Told (story ss) tt) (BuyerObeys ss) BuyerIn BuyerIn (told_cost (story ss) tt) (buyer_cost ss) (to_all ss) (from_all ss) (λ qs t a l x. x) (same_cost ss)
    (follows (buyer_links ss) (story ss) go (λ h a. a ≡ 0) (tracking ss) tt refl)

pub buyer_stands : (ss : List Step) → BuyerRule ss
buyer_stands ss = of_open_kind (buyer_links ss) (BuyerObeys ss) BuyerIn (buyer_cost ss) (λ a. refl) (buyer_agrees ss)

-- bounds --

lots_near : (n : ℕ) → n ≤ 500 → Near 500 (neg_ℤ (pos n))
lots_near n l = record { low = omega (arith, ints); high = omega (arith, ints) }

paid_near : (ss : List Step) → fair_places ss ≡ true → (n : ℕ) → n ≤ 500 → Near 500000000 (neg_ℤ (fill ss n))
paid_near ss c n l = let z = fill_small ss n l c in record { low = omega (arith, ints); high = omega (arith, ints) }

below_zero : (n : ℕ) → neg_ℤ (pos n) ≤ℤ pos 0
below_zero n = omega (arith, ints)

pub buyer_sound : (ss : List Step) → fair_places ss ≡ true → lots_in ss ≤ 500 → SoundLinks (buyer_links ss)
buyer_sound ss c few = record {
  some_state = omega arith;
  few_states = omega arith;
  starts = omega arith;
  outputs = λ a b i j y. (lots_near (lots_in ss) few, near_zero 500, below_zero (lots_in ss));
  costs = λ a b q i j y o. paid_near ss c (unsigned_abs q) (near_abs 500 q (near_between 500 _ _ q (lots_near (lots_in ss) few) (near_zero 500) (among_low (takes ss) q o) (among_high (takes ss) q o)));
}
