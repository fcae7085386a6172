-- Cutting a file at its newlines. Assumes nothing.
use Rattle.std.proofs.Common.{◌≡◌, ℕ, suc, ◌+◌, ◌<◌, Bool, true, false, cond, not, List, [], ◌∷◌, length, take, drop, Some, None, Option, nat_lt, sym, refl, ap, ◌∙◌, arith, inl, inr}
use Rattle.std.specs.List.{position, position_or_len}
use Rattle.std.specs.Option.{unwrap_or}
use Rattle.std.proofs.lemmas.Bool.{cases_Bool, cond-true, cond-false, ltb-false}
use Rattle.std.proofs.lemmas.List.Sums.{prefix_len-le-length}
use Rattle.day.specs.Cutting.{is_newline, onto_first, lines_of}

pub end_is : (xs : List ℕ) → unwrap_or (position is_newline xs) (length xs) ≡ position_or_len is_newline xs
end_is xs =
    let k = position_or_len is_newline xs in
    elim (cases_Bool (nat_lt k (length xs))) [
      | inl y ↦ ap (λ (o : Option ℕ). unwrap_or o (length xs)) (cond-true (nat_lt k (length xs)) (Some k) None y)
      | inr z ↦
          let l = ltb-false k (length xs) z in
          let m = prefix_len-le-length (λ b. not (is_newline b)) xs in
          let e : length xs ≡ k = omega arith in
          ap (λ (o : Option ℕ). unwrap_or o (length xs)) (cond-false (nat_lt k (length xs)) (Some k) None z) ∙ e
    ]

stepped : (b : ℕ) (xs : List ℕ) (k : ℕ) → (b ∷ take k xs) ∷ lines_of (drop (k + 1) xs) ≡ take (1 + k) (b ∷ xs) ∷ lines_of (drop (1 + k + 1) (b ∷ xs))
stepped b xs k =
    let e : 1 + k ≡ suc k = omega arith in
    let d : 1 + k + 1 ≡ suc (k + 1) = omega arith in
    sym (ap (λ n. take n (b ∷ xs) ∷ lines_of (drop (1 + k + 1) (b ∷ xs))) e ∙ ap (λ n. take (suc k) (b ∷ xs) ∷ lines_of (drop n (b ∷ xs))) d)

abbrev cut_at : ℕ → List ℕ → List (List ℕ)
cut_at k bs = take k bs ∷ lines_of (drop (k + 1) bs)

more : (b : ℕ) (cs : List ℕ) → (0 < length cs → lines_of cs ≡ cut_at (position_or_len is_newline cs) cs) → onto_first b (lines_of cs) ≡ cut_at (1 + position_or_len is_newline cs) (b ∷ cs)
more b [] r = refl
more b (c ∷ cs) r = ap (onto_first b) (r (omega arith)) ∙ stepped b (c ∷ cs) (position_or_len is_newline (c ∷ cs))

shape : (b : ℕ) (bs : List ℕ) (v : Bool) → (0 < length bs → lines_of bs ≡ cut_at (position_or_len is_newline bs) bs) → cond v ([] ∷ lines_of bs) (onto_first b (lines_of bs)) ≡ cut_at (cond (not v) (1 + position_or_len is_newline bs) 0) (b ∷ bs)
shape b bs true r = refl
shape b bs false r = more b bs r

-- the first line and the lines after its newline
pub lines_cut : (bs : List ℕ) → 0 < length bs → lines_of bs ≡ cut_at (position_or_len is_newline bs) bs
lines_cut [] h = absurd (omega arith)
lines_cut (b ∷ bs) h = shape b bs (is_newline b) (λ g. lines_cut bs g)
