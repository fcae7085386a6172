-- The best of what is had. Assumes nothing.
use Rattle.std.proofs.Common.{◌≡◌, true, ◌⊎◌, Some, None, Option, sym, refl, subst, ⊎_elim}
use Rattle.std.proofs.lemmas.Bool.{cases_Bool, cond-true, cond-false, both_ways}
use Rattle.fleet.specs.Scores.{Scale, Lawful}
use Rattle.fleet.specs.Table.{Best, better_of}

module _ {S : Type 0} {s : Scale S} (l : Lawful s) where
  pub most_self : (a : S) → s.at_most a a ≡ true
  most_self a = ⊎_elim (λ e. e) (λ e. l.total a a e) (cases_Bool (s.at_most a a))

  same_most : (a b : S) → a ≡ b → s.at_most a b ≡ true
  same_most a b e = subst (λ c. s.at_most a c ≡ true) e (most_self a)

  -- equal sums come from equal rests
  pub cancel : (c a b : S) → s.add c a ≡ s.add c b → a ≡ b
  cancel c a b e =
      l.one a b (most a b (same_most _ _ e)) (most b a (same_most _ _ (sym e)))
    where
      most : (x y : S) → s.at_most (s.add c x) (s.add c y) ≡ true → s.at_most x y ≡ true
      most x y h = ⊎_elim (λ k. k) (λ k. absurd (both_ways _ (l.less_left c y x k) h)) (cases_Bool (s.at_most x y))

  -- the best of the same things
  pub best_like : (Had More : S → Type 0) (o : Option S) → Best s Had o → ((x : S) → Had x → More x) → ((x : S) → More x → Had x) → Best s More o
  best_like Had More None h to from = λ x m. h x (from x m)
  best_like Had More (Some b) h to from = (to b h.0, λ x m. h.1 x (from x m))

  -- the best of two sets is the better of their bests
  pub best_join : (One Two Both : S → Type 0) (o : Option S) (x : S) → Best s One o → Best s Two (Some x) → ((y : S) → One y → Both y) → ((y : S) → Two y → Both y) → ((y : S) → Both y → One y ⊎ Two y) → Best s Both (better_of s o x)
  best_join One Two Both None x h k to to2 from = (to2 x k.0, λ y m. ⊎_elim (λ a. absurd (h y a)) (λ b. k.1 y b) (from y m))
  best_join One Two Both (Some b) x h k to to2 from =
      ⊎_elim
      (λ e. subst (Best s Both) (sym (cond-true (s.at_most x b) (Some b) (Some x) e)) (to b h.0, λ y m. ⊎_elim (λ p. h.1 y p) (λ p. l.chain y x b (k.1 y p) e) (from y m)))
      (λ e. subst (Best s Both) (sym (cond-false (s.at_most x b) (Some b) (Some x) e)) (to2 x k.0, λ y m. ⊎_elim (λ p. l.chain y b x (h.1 y p) (l.total x b e)) (λ p. k.1 y p) (from y m)))
      (cases_Bool (s.at_most x b))

  pub best_one : (x : S) → Best s (λ y. y ≡ x) (Some x)
  best_one x = (refl, λ y e. subst (λ z. s.at_most z x ≡ true) (sym e) (most_self x))

  pub best_same : (Had : S → Type 0) (x y : S) → Best s Had (Some x) → Best s Had (Some y) → x ≡ y
  best_same Had x y h k = l.one x y (k.1 x h.0) (h.1 y k.0)
