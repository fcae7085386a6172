-- One offer more in the list is one unit more in what the book means. Assumes nothing.
use Rattle.std.proofs.Common.{◌≡◌, ◌≢◌, ℕ, zero, suc, List, [], ◌∷◌, ◌++◌, length, Some, refl, sym, ap, subst, length-append}
use Rattle.std.specs.List.{slice_get}
use Rattle.reader.specs.declared.offer.Offer.{Offer}
use Rattle.offers.specs.Books.{unit_of, book_meaning, AddsUnit}

last_added : (os : List Offer) (o : Offer) → slice_get (os ++ (o ∷ [])) (length os) ≡ Some o
last_added [] o = refl
last_added (x ∷ os) o = last_added os o

others_stay : (os : List Offer) (o : Offer) (u : ℕ) → u ≢ length os → slice_get (os ++ (o ∷ [])) u ≡ slice_get os u
others_stay [] o zero different = absurd (different refl)
others_stay [] o (suc u) different = refl
others_stay (x ∷ os) o zero different = refl
others_stay (x ∷ os) o (suc u) different = others_stay os o u (λ e. different (ap suc e))

one_more : (os : List Offer) (o : Offer) → AddsUnit (book_meaning os) (book_meaning (os ++ (o ∷ []))) o
one_more os o = record {
  units = length-append os (o ∷ []);
  added = ap unit_of (last_added os o);
  others = λ u different. ap unit_of (others_stay os o u different);
}

-- said of the list that stands after it
pub adds_unit : (os xs : List Offer) (o : Offer) → xs ≡ os ++ (o ∷ []) → AddsUnit (book_meaning os) (book_meaning xs) o
adds_unit os xs o e = subst (λ l. AddsUnit (book_meaning os) (book_meaning l) o) (sym e) (one_more os o)
