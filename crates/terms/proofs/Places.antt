-- Sums over places, where one place changes or a list gives to each. Assumes nothing.
use Rattle.std.proofs.Common.{◌≡◌, ℕ, zero, suc, ◌<◌, ◌≤◌, cond, eqb, List, [], ◌∷◌, ℤ, pos, ◌+ℤ◌, ◌*ℤ◌, sym, refl, ap, ◌∙◌, inl, inr, arith}
use lib.IntN.{zero-*ℤ}
use Rattle.std.proofs.lemmas.Int.{ints}
use Rattle.std.proofs.lemmas.Bool.Decides.{nat_tests}
use Rattle.std.proofs.lemmas.Bool.{cases_eq}
use Rattle.std.specs.List.{AllByRecursion}
use Rattle.terms.specs.Sums.{sum_to, sum_of}
use Rattle.terms.proofs.Ints.{add_mulℤ}
use Rattle.terms.proofs.Sums.{sum_to_same, sum_to_zero, sum_to_add}

-- w where i is u, else 0
abbrev pub only_at : ℕ → ℤ → ℕ → ℤ
only_at u w i = cond (eqb u i) w (pos 0)

only_at_self : (u : ℕ) (w : ℤ) → only_at u w u ≡ w
only_at_self u w = grind (arith, nat_tests)

only_at_other : (u : ℕ) (w : ℤ) (i : ℕ) → (u ≡ i → ⊥) → only_at u w i ≡ pos 0
only_at_other u w i h = grind (arith, nat_tests)

pick_none : (n u : ℕ) (w : ℤ) (b : ℕ → ℤ) → n ≤ u → sum_to n (λ i. only_at u w i *ℤ b i) ≡ pos 0
pick_none zero u w b h = refl
pick_none (suc n) u w b h =
    let r = pick_none n u w b (omega arith) in
    let e = ap (λ z. z *ℤ b n) (only_at_other u w n (λ q. omega arith)) ∙ zero-*ℤ (b n) in
    rw (r, e)

pick : (n u : ℕ) (w : ℤ) (b : ℕ → ℤ) → u < n → sum_to n (λ i. only_at u w i *ℤ b i) ≡ w *ℤ b u
pick zero u w b h = absurd (omega arith)
pick (suc n) u w b h =
    elim (cases_eq u n) [
      | inl e ↦
          let r = pick_none n u w b (omega arith) in
          let z = ap (λ i. only_at u w i *ℤ b i) (sym e) ∙ ap (λ z. z *ℤ b u) (only_at_self u w) in
          omega (arith, ints, r, z)
      | inr d ↦
          let r = pick n u w b (omega arith) in
          let z = ap (λ z. z *ℤ b n) (only_at_other u w n d) ∙ zero-*ℤ (b n) in
          omega (arith, ints, r, z)
    ]

-- what a list gives to each place, times b there, over all places: the same sum taken along the list
pub by_place : {X : Type 0} (n : ℕ) (u : X → ℕ) (w : X → ℤ) (b : ℕ → ℤ) (xs : List X) → AllByRecursion (λ x. u x < n) xs → sum_to n (λ i. sum_of (λ x. only_at (u x) (w x) i) xs *ℤ b i) ≡ sum_of (λ x. w x *ℤ b (u x)) xs
by_place n u w b [] h = sum_to_same n _ (λ _. pos 0) (λ i l. zero-*ℤ (b i)) ∙ sum_to_zero n
by_place n u w b (x ∷ xs) (h, k) =
    let r = by_place n u w b xs k in
    let p = pick n (u x) (w x) b h in
    let s = sum_to_same n (λ i. (only_at (u x) (w x) i +ℤ sum_of (λ y. only_at (u y) (w y) i) xs) *ℤ b i) _ (λ i l. add_mulℤ (only_at (u x) (w x) i) (sum_of (λ y. only_at (u y) (w y) i) xs) (b i)) in
    let a = sum_to_add n (λ i. only_at (u x) (w x) i *ℤ b i) (λ i. sum_of (λ y. only_at (u y) (w y) i) xs *ℤ b i) in
    s ∙ a ∙ omega (arith, ints, r, p)

-- one place has x more
pub sum_to_one : (n u : ℕ) (f g : ℕ → ℤ) (x : ℤ) → u < n → g u ≡ f u +ℤ x → ((i : ℕ) → (u ≡ i → ⊥) → g i ≡ f i) → sum_to n g ≡ sum_to n f +ℤ x
sum_to_one zero u f g x l h k = absurd (omega arith)
sum_to_one (suc n) u f g x l h k =
    elim (cases_eq u n) [
      | inl e ↦
          let r = sum_to_same n g f (λ i m. k i (λ q. omega arith)) in
          let z : g n ≡ f n +ℤ x = rw (← e) h in
          omega (arith, ints, r, z)
      | inr d ↦
          let r = sum_to_one n u f g x (omega arith) h k in
          let z = k n d in
          omega (arith, ints, r, z)
    ]
