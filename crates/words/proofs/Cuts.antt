-- The word in front of a line's bytes, and what follows it.
use Rattle.std.proofs.Common.{◌≡◌, ℕ, zero, suc, ◌+◌, ◌-◌, ◌<◌, ◌≤◌, true, false, List, [], ◌∷◌, length, take, drop, sym, refl, ap, ◌∙◌, ⊎_elim, arith, add-zero}
use Rattle.std.specs.List.{prefix_len}
use Rattle.std.proofs.lemmas.List.{length-drop, length-take, take_rest}
use Rattle.std.proofs.lemmas.Bool.{cond-true, cond-false, cases_Bool, both_ways}
use Rattle.words.specs.declared.classes.Class.{Class}
use Rattle.words.specs.declared.classes.Class.TheVariants.{Letter, Digit, Minus, Open, Close, Blank, Foreign}
use Rattle.words.specs.Classes.{class_of, is_blank, is_bracket, is_joined, is_blank_class, is_bracket_class, is_joined_class}
use Rattle.words.specs.Lines.{Word, joined, words_from}
use Rattle.words.specs.Lengths.{word_length}

-- a byte that is joined to others is no blank and no bracket, and one that is neither is joined
pub record Joined (c : Class) : Type 0 where
  pub blank : is_blank_class c ≡ false
  pub bracket : is_bracket_class c ≡ false

pub class_joined : (c : Class) → is_joined_class c ≡ true → Joined c
class_joined Letter e = record { blank = refl; bracket = refl }
class_joined Digit e = record { blank = refl; bracket = refl }
class_joined Minus e = record { blank = refl; bracket = refl }
class_joined Open e = absurd (both_ways _ refl e)
class_joined Close e = absurd (both_ways _ refl e)
class_joined Blank e = absurd (both_ways _ refl e)
class_joined Foreign e = record { blank = refl; bracket = refl }

pub class_neither : (c : Class) → is_blank_class c ≡ false → is_bracket_class c ≡ false → is_joined_class c ≡ true
class_neither Letter e f = refl
class_neither Digit e f = refl
class_neither Minus e f = refl
class_neither Open e f = absurd (both_ways _ f refl)
class_neither Close e f = absurd (both_ways _ f refl)
class_neither Blank e f = absurd (both_ways _ e refl)
class_neither Foreign e f = refl

-- a bracket is no blank
class_bracket : (c : Class) → is_bracket_class c ≡ true → is_blank_class c ≡ false
class_bracket Letter e = refl
class_bracket Digit e = refl
class_bracket Minus e = refl
class_bracket Open e = refl
class_bracket Close e = refl
class_bracket Blank e = absurd (both_ways _ refl e)
class_bracket Foreign e = refl

-- blanks in front are passed over
past_blanks : (bs : List ℕ) (p k : ℕ) → k ≡ prefix_len is_blank bs → words_from p bs ≡ words_from (p + k) (drop k bs)
unfolding words_from
past_blanks [] p zero e = refl
past_blanks [] p (suc k) e = refl
past_blanks (b ∷ bs) p k e =
    let m = prefix_len is_blank bs in
    ⊎_elim
    (λ (t : is_blank b ≡ true).
    let s : suc m ≡ k = omega (arith, e ∙ cond-true _ _ _ t) in
    let q : p + 1 + m ≡ p + suc m = omega arith in
    cond-true _ _ _ t ∙ past_blanks bs (p + 1) m refl ∙ ap (λ j. words_from j (drop m bs)) q ∙ ap (λ j. words_from (p + j) (drop j (b ∷ bs))) s)
    (λ (f : is_blank b ≡ false).
    let s : 0 ≡ k = sym (e ∙ cond-false _ _ _ f) in
    ap (λ j. words_from j (b ∷ bs)) (sym (add-zero p)) ∙ ap (λ j. words_from (p + j) (drop j (b ∷ bs))) s)
    (cases_Bool (is_blank b))

apart : (p b : ℕ) (ws : List Word) → joined false p b ws ≡ record { text = b ∷ []; place = p } ∷ ws
apart p b [] = refl
apart p b (w ∷ ws) = refl

-- joined bytes in front are one word
run : (bs : List ℕ) (b p n : ℕ) → is_joined b ≡ true → n ≡ prefix_len is_joined (b ∷ bs) → words_from p (b ∷ bs) ≡ record { text = take n (b ∷ bs); place = p } ∷ words_from (p + n) (drop n (b ∷ bs))
unfolding words_from
run [] b p n e f =
    let j = class_joined (class_of b) e in
    let s : 1 ≡ n = sym (f ∙ cond-true _ _ _ e) in
    cond-false _ _ _ j.blank ∙ cond-false _ _ _ j.bracket ∙ ap (λ i. record { text = take i (b ∷ []); place = p } ∷ words_from (p + i) (drop i (b ∷ []))) s
run (c ∷ cs) b p n e f =
    let j = class_joined (class_of b) e in
    let m = prefix_len is_joined (c ∷ cs) in
    let s : suc m ≡ n = omega (arith, f ∙ cond-true _ _ _ e) in
    let begun = cond-false _ _ _ j.blank ∙ cond-false _ _ _ j.bracket in
    begun ∙ ⊎_elim
    (λ (t : is_joined c ≡ true).
    let q : p + 1 + m ≡ p + suc m = omega arith in
    ap (λ o. joined o p b (words_from (p + 1) (c ∷ cs))) t ∙ ap (joined true p b) (run cs c (p + 1) m t refl)
    ∙ ap (λ i. record { text = b ∷ take m (c ∷ cs); place = p } ∷ words_from i (drop m (c ∷ cs))) q
    ∙ ap (λ i. record { text = take i (b ∷ c ∷ cs); place = p } ∷ words_from (p + i) (drop i (b ∷ c ∷ cs))) s)
    (λ (t : is_joined c ≡ false).
    let z : 1 ≡ n = omega (arith, s, cond-false (is_joined c) (1 + prefix_len is_joined cs) 0 t) in
    ap (λ o. joined o p b (words_from (p + 1) (c ∷ cs))) t ∙ apart p b (words_from (p + 1) (c ∷ cs))
    ∙ ap (λ i. record { text = take i (b ∷ c ∷ cs); place = p } ∷ words_from (p + i) (drop i (b ∷ c ∷ cs))) z)
    (cases_Bool (is_joined c))

alone : (bs : List ℕ) (b p n : ℕ) → is_bracket b ≡ true → n ≡ 1 → words_from p (b ∷ bs) ≡ record { text = take n (b ∷ bs); place = p } ∷ words_from (p + n) (drop n (b ∷ bs))
unfolding words_from
alone bs b p n e f =
    cond-false _ _ _ (class_bracket (class_of b) e) ∙ cond-true _ _ _ e
    ∙ ap (λ i. record { text = take i (b ∷ bs); place = p } ∷ words_from (p + i) (drop i (b ∷ bs))) (sym f)

-- bytes that do not begin with a blank begin with a word
front : (bs : List ℕ) (p n : ℕ) → prefix_len is_blank bs ≡ 0 → n ≡ word_length bs → 0 < n → words_from p bs ≡ record { text = take n bs; place = p } ∷ words_from (p + n) (drop n bs)
front [] p n e f h = absurd (omega arith)
front (b ∷ bs) p n e f h =
    ⊎_elim
    (λ (t : is_bracket b ≡ true). alone bs b p n t (f ∙ cond-true _ _ _ t))
    (λ (t : is_bracket b ≡ false).
    ⊎_elim
    (λ (u : is_joined b ≡ true). run bs b p n u (f ∙ cond-false _ _ _ t))
    (λ (u : is_joined b ≡ false). absurd (let z : n ≡ 0 = f ∙ cond-false _ _ _ t ∙ cond-false _ _ _ u in omega arith))
    (cases_Bool (is_joined b)))
    (cases_Bool (is_bracket b))

none_length : (bs : List ℕ) → prefix_len is_blank bs ≡ 0 → word_length bs ≡ 0 → bs ≡ []
none_length [] e f = refl
none_length (b ∷ bs) e f =
    ⊎_elim
    (λ (t : is_bracket b ≡ true). absurd (let z : 1 ≡ 0 = sym (cond-true _ _ _ t) ∙ f in omega arith))
    (λ (t : is_bracket b ≡ false).
    ⊎_elim
    (λ (u : is_blank b ≡ true). absurd (let z : 1 + prefix_len is_blank bs ≡ 0 = sym (cond-true _ _ _ u) ∙ e in omega arith))
    (λ (u : is_blank b ≡ false).
    let j = class_neither (class_of b) u t in
    absurd (let z : 1 + prefix_len is_joined bs ≡ 0 = sym (cond-true _ _ _ j) ∙ sym (cond-false _ _ _ t) ∙ f in omega arith))
    (cases_Bool (is_blank b)))
    (cases_Bool (is_bracket b))

-- past the blanks stands no blank
no_more_blanks : (bs : List ℕ) (k : ℕ) → k ≡ prefix_len is_blank bs → prefix_len is_blank (drop k bs) ≡ 0
no_more_blanks [] zero e = refl
no_more_blanks [] (suc k) e = refl
no_more_blanks (b ∷ bs) k e =
    ⊎_elim
    (λ (t : is_blank b ≡ true).
    let m = prefix_len is_blank bs in
    let s : suc m ≡ k = omega (arith, e ∙ cond-true _ _ _ t) in
    ap (λ j. prefix_len is_blank (drop j (b ∷ bs))) (sym s) ∙ no_more_blanks bs m refl)
    (λ (f : is_blank b ≡ false). ap (λ j. prefix_len is_blank (drop j (b ∷ bs))) (e ∙ cond-false _ _ _ f) ∙ cond-false _ _ _ f)
    (cases_Bool (is_blank b))

-- bytes at p, cut into k blanks, a word t of n bytes, and the rest r
pub record Cut (p : ℕ) (bs t r : List ℕ) (k n : ℕ) : Type 0 where
  pub some : 0 < length t → words_from p bs ≡ record { text = t; place = p + k } ∷ words_from (p + k + n) r
  pub none : t ≡ [] → (words_from p bs ≡ []) × (words_from (p + k + n) r ≡ [])
  pub end : p + k + n + length r ≡ p + length bs

module _ (p : ℕ) (bs b : List ℕ) (k n : ℕ) (ek : k ≡ prefix_len is_blank bs) (eb : b ≡ drop k bs) (en : n ≡ word_length b) where
  unblank : prefix_len is_blank b ≡ 0
  unblank = ap (prefix_len is_blank) eb ∙ no_more_blanks bs k ek

  word_first : 0 < n → words_from p bs ≡ record { text = take n b; place = p + k } ∷ words_from (p + k + n) (drop n b)
  word_first h = past_blanks bs p k ek ∙ ap (words_from (p + k)) (sym eb) ∙ front b (p + k) n unblank en h

  empty : n ≡ 0 → b ≡ []
  empty h = none_length b unblank (sym en ∙ h)

  word_none : n ≡ 0 → words_from p bs ≡ []
  unfolding words_from
  word_none h = past_blanks bs p k ek ∙ ap (words_from (p + k)) (sym eb ∙ empty h)

  none_left : n ≡ 0 → words_from (p + k + n) (drop n b) ≡ []
  unfolding words_from
  none_left h = λ i. words_from (p + k + n) (drop (h i) (empty h i))

  same_end : k ≤ length bs → n ≤ length b → p + k + n + length (drop n b) ≡ p + length bs
  same_end h g = omega (arith, length-drop n b, ap length eb, length-drop k bs)

  length_word : n ≤ length b → n ≡ length (take n b)
  length_word g = omega (arith, length-take n b)

-- the same of slices as the code takes them
pub cut : (p : ℕ) (bs : List ℕ) (k n : ℕ) → k ≡ prefix_len is_blank bs → k ≤ length bs → n ≡ word_length (take (length bs - k) (drop k bs)) → n ≤ length (take (length bs - k) (drop k bs)) → Cut p bs (take n (take (length bs - k) (drop k bs))) (take (length (take (length bs - k) (drop k bs)) - n) (drop n (take (length bs - k) (drop k bs)))) k n
cut p bs k n ek wk en wn =
    let b = take (length bs - k) (drop k bs) in
    let eb = take_rest bs k in
    let er = take_rest b n in
    let e = length_word p bs b k n ek eb en wn in
    record {
      some = λ h. word_first p bs b k n ek eb en (omega (arith, e)) ∙ ap (λ r. record { text = take n b; place = p + k } ∷ words_from (p + k + n) r) (sym er);
      none = λ h. let z = e ∙ ap length h in (word_none p bs b k n ek eb en z, ap (words_from (p + k + n)) er ∙ none_left p bs b k n ek eb en z);
      end = ap (λ r. p + k + n + length r) er ∙ same_end p bs b k n ek eb en wk wn;
    }
