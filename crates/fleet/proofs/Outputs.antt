-- Going through the outputs of an arc. Assumes nothing.
use Rattle.std.proofs.Common.{◌≡◌, true, ℤ, pos, ◌+ℤ◌, ◌≤ℤ◌, ◌<ℤ◌, Some, Option, sym, ap, ◌∙◌, inl, inr, arith}
use Rattle.std.proofs.lemmas.Int.{ints, by_lt_z}
use Rattle.fleet.specs.declared.records.Range.{Range}
use Rattle.fleet.specs.Scores.{Scale, Lawful}
use Rattle.fleet.specs.Units.{holds}
use Rattle.fleet.specs.Table.{Best, better_of}
use Rattle.fleet.proofs.Arcs.{among_low, among_high, among_from}
use Rattle.fleet.proofs.Bests.{best_like, best_join, best_one}

-- x is what f gives at a whole number from lo and below i
abbrev pub Tried : {S : Type 0} → (ℤ → S) → ℤ → ℤ → S → Type 0
Tried f lo i x = (q : ℤ) × (lo ≤ℤ q) × (q <ℤ i) × (x ≡ f q)

module _ {S : Type 0} {s : Scale S} (l : Lawful s) where
  pub tried_more : (f : ℤ → S) (lo i j : ℤ) (o : Option S) (x : S) → lo ≤ℤ i → j ≡ i +ℤ pos 1 → x ≡ f i → Best s (Tried f lo i) o → Best s (Tried f lo j) (better_of s o x)
  tried_more f lo i j o x from next is h =
      best_join l (Tried f lo i) (λ y. y ≡ x) (Tried f lo j) o x h (best_one l x)
      (λ y k. let ge = k.1 in let lt = k.2 in (k.0, k.1, omega (arith, ints), k.3))
      (λ y e. (i, from, omega (arith, ints), e ∙ is))
      (λ y k. let q = k.0 in let lt = k.2 in by_lt_z q i (λ below. inl (q, k.1, below, k.3)) (λ above. let same : q ≡ i = omega (arith, ints) in inr (k.3 ∙ ap f same ∙ sym is)))

  pub tried_all : (f : ℤ → S) (r : Range) (lo end : ℤ) (o : Option S) → lo ≡ r.lo → end ≡ r.hi +ℤ pos 1 → Best s (Tried f lo end) o → Best s (λ x. (q : ℤ) × (holds (Some r) q ≡ true) × (x ≡ f q)) o
  tried_all f r lo end o begins is h =
      best_like l (Tried f lo end) (λ x. (q : ℤ) × (holds (Some r) q ≡ true) × (x ≡ f q)) o h
      (λ x k. let ge = k.1 in let lt = k.2 in (k.0, among_from r k.0 (omega (arith, ints)) (omega (arith, ints)), k.3))
      (λ x k. let over = among_low r k.0 k.1 in let under = among_high r k.0 k.1 in (k.0, omega (arith, ints), omega (arith, ints), k.2))
