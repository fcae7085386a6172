-- Sums of whole numbers: sums and differences of sums, a common factor, the order of summing. Assumes nothing.
use Rattle.std.proofs.Common.{◌≡◌, ℕ, zero, suc, ◌<◌, List, [], ◌∷◌, ◌++◌, ℤ, pos, ◌+ℤ◌, ◌-ℤ◌, ◌*ℤ◌, ◌≤ℤ◌, sym, refl, arith}
use lib.IntN.{*ℤ-zero}
use Rattle.std.proofs.lemmas.Int.{ints}
use Rattle.std.specs.List.{AllByRecursion}
use Rattle.terms.specs.Sums.{sum_to, sum_of}
use Rattle.terms.proofs.Ints.{mul_addℤ}

pub sum_to_same : (n : ℕ) (f g : ℕ → ℤ) → ((i : ℕ) → i < n → f i ≡ g i) → sum_to n f ≡ sum_to n g
sum_to_same zero f g h = refl
sum_to_same (suc n) f g h =
    let r = sum_to_same n f g (λ i l. h i (omega arith)) in
    let e : f n ≡ g n = h n (omega arith) in
    rw (r, e)

pub sum_to_le : (n : ℕ) (f g : ℕ → ℤ) → ((i : ℕ) → i < n → f i ≤ℤ g i) → sum_to n f ≤ℤ sum_to n g
sum_to_le zero f g h = omega (arith, ints)
sum_to_le (suc n) f g h =
    let r = sum_to_le n f g (λ i l. h i (omega arith)) in
    let e : f n ≤ℤ g n = h n (omega arith) in
    omega (arith, ints)

pub sum_to_zero : (n : ℕ) → sum_to n (λ _. pos 0) ≡ pos 0
sum_to_zero zero = refl
sum_to_zero (suc n) = rw (sum_to_zero n)

pub sum_to_add : (n : ℕ) (f g : ℕ → ℤ) → sum_to n (λ i. f i +ℤ g i) ≡ sum_to n f +ℤ sum_to n g
sum_to_add zero f g = refl
sum_to_add (suc n) f g = let r = sum_to_add n f g in omega (arith, ints)

pub sum_to_sub : (n : ℕ) (f g : ℕ → ℤ) → sum_to n (λ i. f i -ℤ g i) ≡ sum_to n f -ℤ sum_to n g
sum_to_sub zero f g = refl
sum_to_sub (suc n) f g = let r = sum_to_sub n f g in omega (arith, ints)

pub sum_to_scale : (n : ℕ) (c : ℤ) (f : ℕ → ℤ) → sum_to n (λ i. c *ℤ f i) ≡ c *ℤ sum_to n f
sum_to_scale zero c f = sym (*ℤ-zero c)
sum_to_scale (suc n) c f = let r = sum_to_scale n c f in let d = mul_addℤ c (sum_to n f) (f n) in omega (arith, ints)

pub sum_to_swap : (n m : ℕ) (f : ℕ → ℕ → ℤ) → sum_to n (λ i. sum_to m (λ j. f i j)) ≡ sum_to m (λ j. sum_to n (λ i. f i j))
sum_to_swap zero m f = sym (sum_to_zero m)
sum_to_swap (suc n) m f = let r = sum_to_swap n m f in let a = sum_to_add m (λ j. sum_to n (λ i. f i j)) (f n) in omega (arith, ints)

module _ {X : Type 0} where
  pub sum_of_same : (f g : X → ℤ) (xs : List X) → ((x : X) → f x ≡ g x) → sum_of f xs ≡ sum_of g xs
  sum_of_same f g [] h = refl
  sum_of_same f g (x ∷ xs) h = let r = sum_of_same f g xs h in let e = h x in omega (arith, ints)

  pub sum_of_add : (f g : X → ℤ) (xs : List X) → sum_of (λ x. f x +ℤ g x) xs ≡ sum_of f xs +ℤ sum_of g xs
  sum_of_add f g [] = refl
  sum_of_add f g (x ∷ xs) = let r = sum_of_add f g xs in omega (arith, ints)

  pub sum_of_sub : (f g : X → ℤ) (xs : List X) → sum_of (λ x. f x -ℤ g x) xs ≡ sum_of f xs -ℤ sum_of g xs
  sum_of_sub f g [] = refl
  sum_of_sub f g (x ∷ xs) = let r = sum_of_sub f g xs in omega (arith, ints)

  pub sum_of_scale : (c : ℤ) (f : X → ℤ) (xs : List X) → sum_of (λ x. c *ℤ f x) xs ≡ c *ℤ sum_of f xs
  sum_of_scale c f [] = sym (*ℤ-zero c)
  sum_of_scale c f (x ∷ xs) = let r = sum_of_scale c f xs in let d = mul_addℤ c (f x) (sum_of f xs) in omega (arith, ints)

  pub sum_of_push : (f : X → ℤ) (xs : List X) (y : X) → sum_of f (xs ++ (y ∷ [])) ≡ sum_of f xs +ℤ f y
  sum_of_push f [] y = omega (arith, ints)
  sum_of_push f (x ∷ xs) y = let r = sum_of_push f xs y in omega (arith, ints)

  pub sum_of_swap : (m : ℕ) (f : X → ℕ → ℤ) (xs : List X) → sum_of (λ x. sum_to m (λ j. f x j)) xs ≡ sum_to m (λ j. sum_of (λ x. f x j) xs)
  sum_of_swap m f [] = sym (sum_to_zero m)
  sum_of_swap m f (x ∷ xs) = let r = sum_of_swap m f xs in let a = sum_to_add m (f x) (λ j. sum_of (λ y. f y j) xs) in omega (arith, ints)

  pub sum_of_nonneg : (f : X → ℤ) (xs : List X) → AllByRecursion (λ x. pos 0 ≤ℤ f x) xs → pos 0 ≤ℤ sum_of f xs
  sum_of_nonneg f [] h = omega (arith, ints)
  sum_of_nonneg f (x ∷ xs) (h, k) = let r = sum_of_nonneg f xs k in omega (arith, ints)

  pub sum_of_none : (f : X → ℤ) (xs : List X) → AllByRecursion (λ x. f x ≡ pos 0) xs → sum_of f xs ≡ pos 0
  sum_of_none f [] h = refl
  sum_of_none f (x ∷ xs) (h, k) = let r = sum_of_none f xs k in omega (arith, ints)

  pub sum_of_zero : (f : X → ℤ) (xs : List X) → AllByRecursion (λ x. pos 0 ≤ℤ f x) xs → sum_of f xs ≡ pos 0 → AllByRecursion (λ x. f x ≡ pos 0) xs
  sum_of_zero f [] h e = tt
  sum_of_zero f (x ∷ xs) (h, k) e =
      let r = sum_of_nonneg f xs k in
      (omega (arith, ints), sum_of_zero f xs k (omega (arith, ints)))

pub sum_to_first : (n : ℕ) (f : ℕ → ℤ) → sum_to (suc n) f ≡ f 0 +ℤ sum_to n (λ i. f (suc i))
sum_to_first zero f = omega (arith, ints)
sum_to_first (suc n) f = let r = sum_to_first n f in omega (arith, ints, r)
