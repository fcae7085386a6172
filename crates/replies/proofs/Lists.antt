-- The text of lists, one more at a time. Assumes nothing.
use Rattle.std.proofs.Common.{◌≡◌, ℕ, suc, ◌+◌, ◌<◌, List, [], ◌∷◌, ◌++◌, length, slice_index_or, take, ℤ, pos, sym, refl, ap, ◌∙◌, append_assoc, length-take, arith}
use Rattle.std.proofs.lemmas.List.{take_more}
use Rattle.terms.specs.declared.entry.Entry.{Entry}
use Rattle.replies.specs.Texts.{entries_text, pays_text}

entries_append : (xs ys : List Entry) → entries_text (xs ++ ys) ≡ entries_text xs ++ entries_text ys
entries_append [] ys = refl
entries_append (x ∷ xs) ys =
    let r = entries_append xs ys in
    simp (append_assoc, r)

pub entries_more : (xs : List Entry) (i : ℕ) (d : Entry) → i < length xs → entries_text (take i xs) ++ entries_text (slice_index_or xs i d ∷ []) ≡ entries_text (take (i + 1) xs)
entries_more xs i d l = sym (entries_append (take i xs) (slice_index_or xs i d ∷ [])) ∙ ap entries_text (sym (take_more xs i d l))

pays_append : (u : ℕ) (xs ys : List ℤ) → pays_text u (xs ++ ys) ≡ pays_text u xs ++ pays_text (u + length xs) ys
pays_append u [] ys = let e : u ≡ u + 0 = omega arith in ap (λ k. pays_text k ys) e
pays_append u (x ∷ xs) ys =
    let r = pays_append (u + 1) xs ys in
    let e : u + 1 + length xs ≡ u + suc (length xs) = omega arith in
    let q : pays_text (u + 1 + length xs) ys ≡ pays_text (u + suc (length xs)) ys = ap (λ k. pays_text k ys) e in
    simp (append_assoc, r, q)

pub pays_more : (xs : List ℤ) (i : ℕ) → i < length xs → pays_text 0 (take i xs) ++ pays_text i (slice_index_or xs i (pos 0) ∷ []) ≡ pays_text 0 (take (i + 1) xs)
pays_more xs i l =
    let e : i ≡ 0 + length (take i xs) = omega (arith, length-take i xs) in
    ap (λ k. pays_text 0 (take i xs) ++ pays_text k (slice_index_or xs i (pos 0) ∷ [])) e
    ∙ sym (pays_append 0 (take i xs) (slice_index_or xs i (pos 0) ∷ [])) ∙ ap (pays_text 0) (sym (take_more xs i (pos 0) l))
