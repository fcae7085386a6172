-- A book of offers keeps the bounds and rules of every fleet. Assumes nothing.
use Rattle.std.specs.Prelude.{◌≡◌, ℕ, zero, suc, ◌≤◌, List, [], ◌∷◌, length, Some, None, Option, refl}
use Rattle.std.specs.List.{slice_get}
use Rattle.std.proofs.Common.{ap, le_of_suc-le-suc, arith}
use Rattle.terms.proofs.Bounds.{near_zero}
use Rattle.fleet.specs.Units.{SoundUnit, Sound}
use Rattle.reader.specs.declared.offer.Offer.{Offer}
use Rattle.units.proofs.Rules.{offer_sound}
use Rattle.offers.specs.Books.{no_unit, unit_of, book_meaning}

none_sound : SoundUnit no_unit
none_sound = record {
  some_state = omega arith;
  few_states = omega arith;
  starts = omega arith;
  arcs = λ t a b. tt;
  no_period = λ t a b l. refl;
  no_from = λ t a b l. refl;
  no_to = λ t a b l. refl;
  costs = λ t a b q. near_zero 500000000;
  no_cost = λ t a b q h. refl;
  no_end = λ a l. refl;
}

unit_sound : (o : Option Offer) → SoundUnit (unit_of o)
unit_sound None = none_sound
unit_sound (Some o) = offer_sound o

no_offer : (os : List Offer) (u : ℕ) → length os ≤ u → slice_get os u ≡ None
no_offer [] u l = refl
no_offer (o ∷ os) zero l = absurd (omega arith)
no_offer (o ∷ os) (suc u) l = no_offer os u (le_of_suc-le-suc l)

pub book_sound : (os : List Offer) → length os ≤ 64 → Sound (book_meaning os)
book_sound os few = record {
  few = few;
  each = λ u. unit_sound (slice_get os u);
  lacking = λ u l. let e = no_offer os u l in record {
    states = ap (λ o. (unit_of o).states) e;
    start = ap (λ o. (unit_of o).start) e;
    arc = λ t a b. ap (λ o. (unit_of o).arc t a b) e;
    ends = λ a. ap (λ o. (unit_of o).ends a) e;
  };
}
