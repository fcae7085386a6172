-- A line is its words. Assumes nothing.
use Rattle.std.proofs.Common.{◌≡◌, ℕ, ◌+◌, Bool, true, false, List, [], ◌∷◌, ◌++◌, length, sym, refl, ap, ◌∙◌, subst, inl, inr, arith, add-zero}
use Rattle.std.specs.List.{AllByRecursion}
use Rattle.std.proofs.lemmas.Bool.{cases_Bool, cond-true, cond-false, both_ways}
use Rattle.words.specs.Classes.{class_of, is_blank, is_bracket, is_joined}
use Rattle.words.specs.Lines.{Word, goes_on, joined, words_from}
use Rattle.words.specs.WordLaws.{Blanks, Ends, IsWord, WordsAre, WordsLaw}
use Rattle.words.proofs.Cuts.{class_joined, class_neither}

not_nothing : {P : Type 0} (b : ℕ) (l : List ℕ) → b ∷ l ≡ [] → P
not_nothing b l e = cc

first_is : (b c : ℕ) (l m : List ℕ) → b ∷ l ≡ c ∷ m → b ≡ c
first_is b c l m e = cc

-- no byte is both blank and joined
never_both : {P : Type 0} (b : ℕ) → is_blank b ≡ true → is_joined b ≡ true → P
never_both b y j = absurd (both_ways _ (class_joined (class_of b) j).blank y)

bracket_joined : {P : Type 0} (b : ℕ) → is_bracket b ≡ true → is_joined b ≡ true → P
bracket_joined b y j = absurd (both_ways _ (class_joined (class_of b) j).bracket y)

-- bytes that do not go on with a word end it
ends_word : (bs : List ℕ) → goes_on bs ≡ false → Ends bs
ends_word [] e = tt
ends_word (b ∷ bs) e = e

-- blanks end a word
blanks_part : (bs : List ℕ) → Blanks bs → Ends bs
blanks_part [] h = tt
blanks_part (b ∷ bs) h =
    elim (cases_Bool (is_joined b)) [
      | inl y ↦ never_both b h.0 y
      | inr z ↦ z
    ]

-- a blank before the words
blank_before : (p b : ℕ) (bs : List ℕ) (ws : List Word) → is_blank b ≡ true → WordsAre (p + 1) bs ws → WordsAre p (b ∷ bs) ws
blank_before p b bs [] y h = (y, h)
blank_before p b bs (w ∷ ws) y (blanks, rest, all, e, place, word, others) =
    (b ∷ blanks, rest, (y, all), ap (λ l. b ∷ l) e, (let far : w.place ≡ p + length (b ∷ blanks) = omega (arith, place) in far), word, others)

-- a byte that is a word with none after it
alone : (p b : ℕ) (bs : List ℕ) (ws : List Word) → IsWord (b ∷ []) bs → WordsAre (p + 1) bs ws → WordsAre p (b ∷ bs) (record { text = b ∷ []; place = p } ∷ ws)
alone p b bs ws word h = ([], bs, tt, refl, sym (add-zero p), word, h)

-- bytes that go on with a word have no blank before their first word, which is no bracket
record Front (p : ℕ) (bs : List ℕ) (w : Word) (ws : List Word) : Type 0 where
  rest : List ℕ
  bytes : bs ≡ w.text ++ rest
  place : w.place ≡ p
  joins : AllByRecursion (λ b. is_joined b ≡ true) w.text
  parts : Ends rest
  others : WordsAre (w.place + length w.text) rest ws

front : (p : ℕ) (bs : List ℕ) (w : Word) (ws : List Word) → goes_on bs ≡ true → WordsAre p bs (w ∷ ws) → Front p bs w ws
front p [] w ws g h = absurd (both_ways _ refl g)
front p (c ∷ bs) w ws g (d ∷ blanks, rest, all, e, place, word, others) =
    never_both c (subst (λ z. is_blank z ≡ true) (sym (first_is c d bs (blanks ++ (w.text ++ rest)) e)) all.0) g
front p (c ∷ bs) w ws g ([], rest, all, e, place, inl (b, is, y), others) =
    let same = first_is c b bs rest (e ∙ ap (λ t. t ++ rest) is) in
    bracket_joined c (subst (λ z. is_bracket z ≡ true) (sym same) y) g
front p (c ∷ bs) w ws g ([], rest, all, e, place, inr (some, joins, parts), others) =
    record { rest = rest; bytes = e; place = place ∙ add-zero p; joins = joins; parts = parts; others = others }

-- a byte that goes on with the word after it
longer : (p b : ℕ) (bs : List ℕ) (w : Word) (ws : List Word) → is_joined b ≡ true → Front (p + 1) bs w ws → WordsAre p (b ∷ bs) (record { text = b ∷ w.text; place = p } ∷ ws)
longer p b bs w ws j f =
    let far : w.place + length w.text ≡ p + length (b ∷ w.text) = omega (arith, f.place) in
    ([], f.rest, tt, ap (λ l. b ∷ l) f.bytes, sym (add-zero p), inr ((λ e. not_nothing b w.text e), (j, f.joins), f.parts), subst (λ n. WordsAre n f.rest ws) far f.others)

-- a byte of a word, before the words of what follows it
joins : (p b : ℕ) (bs : List ℕ) (ws : List Word) (on : Bool) → on ≡ goes_on bs → is_joined b ≡ true → WordsAre (p + 1) bs ws → WordsAre p (b ∷ bs) (joined on p b ws)
joins p b bs [] on e j h = alone p b bs [] (inr ((λ z. not_nothing b [] z), (j, tt), blanks_part bs h)) h
joins p b bs (w ∷ ws) true e j h = longer p b bs w ws j (front (p + 1) bs w ws (sym e) h)
joins p b bs (w ∷ ws) false e j h = alone p b bs (w ∷ ws) (inr ((λ z. not_nothing b [] z), (j, tt), ends_word bs (sym e))) h

pub words_law : WordsLaw
unfolding words_from
words_law p [] = tt
words_law p (b ∷ bs) =
    let r = words_law (p + 1) bs in
    elim (cases_Bool (is_blank b)) [
      | inl y ↦ subst (WordsAre p (b ∷ bs)) (sym (cond-true (is_blank b) _ _ y)) (blank_before p b bs (words_from (p + 1) bs) y r)
      | inr n ↦
          subst (WordsAre p (b ∷ bs)) (sym (cond-false (is_blank b) _ _ n))
          (elim (cases_Bool (is_bracket b)) [
            | inl y ↦ subst (WordsAre p (b ∷ bs)) (sym (cond-true (is_bracket b) _ _ y)) (alone p b bs (words_from (p + 1) bs) (inl (b, refl, y)) r)
            | inr m ↦ subst (WordsAre p (b ∷ bs)) (sym (cond-false (is_bracket b) _ _ m)) (joins p b bs (words_from (p + 1) bs) (goes_on bs) refl (class_neither (class_of b) n m) r)
          ])
    ]
