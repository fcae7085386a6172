-- A repeat as a loop reads it: the values so far, and what is still to be read.
use Rattle.std.proofs.Common.{◌≡◌, ℕ, zero, suc, ◌-◌, ◌<◌, Bool, true, false, ◌⊎◌, List, [], ◌∷◌, ◌++◌, sym, ap, ◌∙◌, inl, inr, refl, append_assoc, append-nil, arith}
use Rattle.std.specs.Prelude.{◌&&◌}
use Rattle.std.proofs.lemmas.Bool.{cond-true, cond-false}
use Rattle.words.specs.Grammar.{State, Answer, Reader, bind, give, got, no, word, stands, up_to, close_text}

abbrev pub prepend : {A : Type 0} → List A → Answer (List A) → Answer (List A)
prepend front a = bind a (λ xs. give (front ++ xs))

pub prepend_none : {A : Type 0} (a : Answer (List A)) → prepend [] a ≡ a
prepend_none (got xs s) = refl
prepend_none (no n p) = refl

prepend_one : {A : Type 0} (a : Answer (List A)) (front : List A) (x : A) → prepend front (bind a (λ xs. give (x ∷ xs))) ≡ prepend (front ++ (x ∷ [])) a
prepend_one (got ys s) front x = ap (λ l. got l s) (sym (append_assoc front (x ∷ []) ys))
prepend_one (no k p) front x = refl

module _ {A : Type 0} (r : Reader A) (front : List A) (s : State) where
  pub more_read : (n : ℕ) (follows : Bool) (x : A) (t : State) → 0 < n → (follows && stands close_text s) ≡ false → got x t ≡ r s → prepend front (up_to n follows r s) ≡ prepend (front ++ (x ∷ [])) (up_to (n - 1) true r t)
  unfolding up_to
  more_read zero follows x t h e f = absurd (omega arith)
  more_read (suc n) follows x t h e f =
      ap (prepend front) (cond-false _ _ _ e) ∙ ap (λ a. prepend front (bind a (λ y s₂. bind (up_to n true r s₂) (λ xs. give (y ∷ xs))))) (sym f)
      ∙ prepend_one (up_to n true r t) front x ∙ ap (λ m. prepend (front ++ (x ∷ [])) (up_to m true r t)) (omega arith)

  pub more_declined : (n : ℕ) (follows : Bool) (k p : ℕ) → 0 < n → (follows && stands close_text s) ≡ false → no k p ≡ r s → prepend front (up_to n follows r s) ≡ no k p
  unfolding up_to
  more_declined zero follows k p h e f = absurd (omega arith)
  more_declined (suc n) follows k p h e f = ap (prepend front) (cond-false _ _ _ e) ∙ ap (λ a. prepend front (bind a (λ x t. bind (up_to n true r t) (λ xs. give (x ∷ xs))))) (sym f)

  pub no_more : (n : ℕ) (follows : Bool) → (n ≡ 0) ⊎ ((follows && stands close_text s) ≡ true) → prepend front (up_to n follows r s) ≡ prepend front (bind (word close_text s) (λ _. give []))
  unfolding up_to
  no_more zero follows e = refl
  no_more (suc n) follows (inl e) = absurd (omega arith)
  no_more (suc n) follows (inr e) = ap (prepend front) (cond-true _ _ _ e)

  pub closed_read : (t : State) → got tt t ≡ word close_text s → prepend front (bind (word close_text s) (λ _. give [])) ≡ got front t
  closed_read t e = ap (λ a. prepend front (bind a (λ _. give []))) (sym e) ∙ ap (λ l. got l t) (append-nil front)

  pub closed_declined : (k p : ℕ) → no k p ≡ word close_text s → prepend front (bind (word close_text s) (λ _. give [])) ≡ no k p
  closed_declined k p e = ap (λ a. prepend front (bind a (λ _. give []))) (sym e)
