-- What a reader that answers has seen, and what it answers where that stands.
use Rattle.std.proofs.Common.{◌≡◌, ℕ, ◌^◌, ◌<◌, Bool, true, false, cond, List, [], ◌∷◌, ℤ, Some, None, Option, sym, refl, ap, ◌∙◌, subst, ⊎_elim, arith}
use Rattle.std.specs.Fmt.{signed_decimal}
use Rattle.std.specs.Str.{bytes_eq}
use Rattle.std.specs.Prelude.{nat_abs}
use Rattle.std.proofs.lemmas.Bool.{cond-true, cond-false, cases_Bool, both_ways}
use Rattle.std.proofs.lemmas.Slice.Eq.{bytes_eq-Decides}
use Rattle.std.proofs.lemmas.Option.{same_Some}
use Rattle.words.specs.Lines.{Word, texts}
use Rattle.words.specs.Numerals.{value_of}
use Rattle.words.specs.Grammar.{State, Answer, Reader, got, no, bind, head, tail, first, past, bracket, numeral, is_bracket_text, name_unless, word_in, word, within, number_at, number_in, number, stands, end, ends, is_got}
use Rattle.words.proofs.Decimals.{value_decimal, decimal_value, decimal_no_bracket}

pub never : {A : Type 0} {X : Type 0} (n p : ℕ) (a : A) (s : State) → ◌≡◌ {A = Answer A} (no n p) (got a s) → X
never n p a s e = let z : ◌≡◌ {A = ℕ} 0 1 = cc in absurd (omega arith)

pub record Same {A : Type 0} (a b : A) (s t : State) : Type 0 where
  pub value : a ≡ b
  pub state : s ≡ t

pub got_same : {A : Type 0} (a b : A) (s t : State) → ◌≡◌ {A = Answer A} (got a s) (got b t) → Same a b s t
got_same a b s t e = record { value = cc; state = cc }

-- the two steps of a chain that answers
pub record Chain {A B : Type 0} (x : Answer A) (f : A → Reader B) (b : B) (t : State) : Type 0 where
  pub value : A
  pub state : State
  pub this : x ≡ got value state
  pub next : f value state ≡ got b t

pub chain : {A B : Type 0} (x : Answer A) (f : A → Reader B) (b : B) (t : State) → bind x f ≡ got b t → Chain x f b t
chain (got a s) f b t e = record { value = a; state = s; this = refl; next = e }
chain (no n p) f b t e = never n p b t e

pub join : {A B : Type 0} (x : Answer A) (f : A → Reader B) (a : A) (s : State) → x ≡ got a s → bind x f ≡ f a s
join x f a s e = ap (λ y. bind y f) e

pub same_bytes : (xs ys : List ℕ) → xs ≡ ys → bytes_eq xs ys ≡ true
same_bytes xs ys e = (bytes_eq-Decides xs ys).1 e

pub bytes_same : (xs ys : List ℕ) → bytes_eq xs ys ≡ true → xs ≡ ys
bytes_same xs ys e = (bytes_eq-Decides xs ys).0 e

-- the next word is t, and the state u is what is left past it
pub record Passed (s u : State) (t : List ℕ) : Type 0 where
  pub words : texts s.left ≡ t ∷ texts u.left
  pub end : u.end ≡ s.end

-- a word with the text t stands next, before ts
pub record Stands (s : State) (t : List ℕ) (ts : List (List ℕ)) : Type 0 where
  pub word : Word
  pub next : first s ≡ Some word
  pub text : word.text ≡ t
  pub rest : texts (past s).left ≡ ts

stands_in : (ws : List Word) (e : ℕ) (t : List ℕ) (ts : List (List ℕ)) → texts ws ≡ t ∷ ts → Stands (record { left = ws; end = e }) t ts
stands_in [] e t ts h = let z : ◌≡◌ {A = ℕ} 0 1 = cc in absurd (omega arith)
stands_in (w ∷ ws) e t ts h = record { word = w; next = refl; text = cc; rest = cc }

pub standing : (s : State) (t : List ℕ) (ts : List (List ℕ)) → texts s.left ≡ t ∷ ts → Stands s t ts
standing s t ts h = stands_in s.left s.end t ts h

passes_in : (ws : List Word) (e : ℕ) (w : Word) → head ws ≡ Some w → Passed (record { left = ws; end = e }) (record { left = tail ws; end = e }) w.text
passes_in [] e w h = let z : ◌≡◌ {A = ℕ} 0 1 = cc in absurd (omega arith)
passes_in (v ∷ ws) e w h = record { words = ap (λ (x : Word). x.text ∷ texts ws) (same_Some v w h); end = refl }

pub passes : (s : State) (w : Word) → first s ≡ Some w → Passed s (past s) w.text
passes s w h = passes_in s.left s.end w h

-- a word that must stand
word_at : (w : List ℕ) (s t : State) (o : Option Word) → first s ≡ o → word_in w s o ≡ got tt t → Passed s t w
word_at w s t None h e = never 5 s.end tt t e
word_at w s t (Some x) h e =
    ⊎_elim
    (λ (y : bytes_eq x.text w ≡ true).
    let g = got_same tt tt (past s) t (sym (cond-true _ _ _ y) ∙ e) in
    subst (λ u. Passed s u w) g.state (subst (Passed s (past s)) (bytes_same _ _ y) (passes s x h)))
    (λ (f : bytes_eq x.text w ≡ false). never 5 x.place tt t (sym (cond-false _ _ _ f) ∙ e))
    (cases_Bool (bytes_eq x.text w))

pub word_only : (w : List ℕ) (s t : State) → word w s ≡ got tt t → Passed s t w
unfolding word
word_only w s t e = word_at w s t (first s) refl e

pub word_always : (w : List ℕ) (s : State) (ts : List (List ℕ)) → texts s.left ≡ w ∷ ts → (word w s ≡ got tt (past s)) × (texts (past s).left ≡ ts)
unfolding word
word_always w s ts h =
    let x = standing s w ts h in
    (ap (word_in w s) x.next ∙ cond-true _ _ _ (same_bytes _ _ x.text), x.rest)

-- a numeral
pub record Number (lo hi : ℤ) (s t : State) (z : ℤ) : Type 0 where
  pub range : within lo hi z ≡ true
  pub said : value_of (signed_decimal z) ≡ Some z
  pub passed : Passed s t (signed_decimal z)

number_by_kind : (lo hi : ℤ) (s t : State) (x : Word) (z : ℤ) (b : Bool) (o : Option ℤ) → first s ≡ Some x → value_of x.text ≡ o → number_at lo hi s x.place (cond b bracket (name_unless o)) ≡ got z t → Number lo hi s t z
number_by_kind lo hi s t x z true o h v e = never 5 x.place z t e
number_by_kind lo hi s t x z false None h v e = never 6 x.place z t e
number_by_kind lo hi s t x z false (Some y) h v e =
    ⊎_elim
    (λ (b : within lo hi y ≡ true).
    let g = got_same y z (past s) t (sym (cond-true _ _ _ b) ∙ e) in
    let d : signed_decimal z ≡ x.text = ap signed_decimal (sym g.value) ∙ decimal_value x.text y v in
    record {
      range = subst (λ k. within lo hi k ≡ true) g.value b;
      said = ap value_of d ∙ v ∙ ap Some g.value;
      passed = subst (λ u. Passed s u (signed_decimal z)) g.state (subst (Passed s (past s)) (sym d) (passes s x h));
    })
    (λ (f : within lo hi y ≡ false). never 7 x.place z t (sym (cond-false _ _ _ f) ∙ e))
    (cases_Bool (within lo hi y))

number_by_word : (lo hi : ℤ) (s t : State) (z : ℤ) (o : Option Word) → first s ≡ o → number_in lo hi s o ≡ got z t → Number lo hi s t z
number_by_word lo hi s t z None h e = never 5 s.end z t e
number_by_word lo hi s t z (Some x) h e = number_by_kind lo hi s t x z (is_bracket_text x.text) (value_of x.text) h refl e

pub number_only : (lo hi : ℤ) (s t : State) (z : ℤ) → number lo hi s ≡ got z t → Number lo hi s t z
unfolding number
number_only lo hi s t z e = number_by_word lo hi s t z (first s) refl e

numeral_kind : (b : Bool) (o : Option ℤ) (z : ℤ) → b ≡ false → o ≡ Some z → cond b bracket (name_unless o) ≡ numeral z
numeral_kind b o z f v = cond-false b bracket (name_unless o) f ∙ ap name_unless v

pub number_always : (lo hi : ℤ) (s : State) (z : ℤ) (ts : List (List ℕ)) → nat_abs z < 10 ^ 10 → within lo hi z ≡ true → texts s.left ≡ signed_decimal z ∷ ts → (number lo hi s ≡ got z (past s)) × (texts (past s).left ≡ ts)
unfolding number
number_always lo hi s z ts small r h =
    let x = standing s (signed_decimal z) ts h in
    let v : value_of x.word.text ≡ Some z = ap value_of x.text ∙ value_decimal z small in
    let n : is_bracket_text x.word.text ≡ false = ap is_bracket_text x.text ∙ decimal_no_bracket z small in (
      ap (number_in lo hi s) x.next ∙ ap (number_at lo hi s x.word.place) (numeral_kind (is_bracket_text x.word.text) (value_of x.word.text) z n v) ∙ cond-true _ _ _ r,
      x.rest,
    )

-- where a closing bracket stands, another word does not, nor does a numeral
got_is : {A : Type 0} (x : Answer A) → is_got x ≡ true → (a : A) × (s : State) × (x ≡ got a s)
got_is (got a s) e = (a, s, refl)
got_is (no n p) e = absurd (both_ways _ refl e)

unit_is : (u : Unit {0}) → u ≡ tt
unit_is u = refl

pub stands_only : (w : List ℕ) (s : State) → stands w s ≡ true → (t : State) × (word w s ≡ got tt t)
stands_only w s e = let g = got_is (word w s) e in (g.1, g.2)

pub stands_always : (w : List ℕ) (s t : State) → word w s ≡ got tt t → stands w s ≡ true
stands_always w s t e = ap is_got e

-- two words that stand in one place are one
pub one_word : (v w : List ℕ) (s t u : State) → Passed s t v → Passed s u w → v ≡ w
one_word v w s t u x y = let z : v ∷ texts t.left ≡ w ∷ texts u.left = sym x.words ∙ y.words in cc

-- the end of a line
end_by : (ws : List Word) (e : ℕ) (t : State) → end (record { left = ws; end = e }) ≡ got tt t → (texts ws ≡ []) × (t ≡ record { left = ws; end = e })
unfolding end
end_by [] e t h = (refl, sym (got_same tt tt (record { left = []; end = e }) t h).state)
end_by (w ∷ ws) e t h = never 5 w.place tt t h

pub end_only : (s t : State) → end s ≡ got tt t → (texts s.left ≡ []) × (t ≡ s)
end_only s t h = end_by s.left s.end t h

end_at : (ws : List Word) (e : ℕ) → texts ws ≡ [] → end (record { left = ws; end = e }) ≡ got tt (record { left = ws; end = e })
unfolding end
end_at [] e h = refl
end_at (w ∷ ws) e h = let z : ◌≡◌ {A = ℕ} 0 1 = cc in absurd (omega arith)

pub end_always : (s : State) → texts s.left ≡ [] → end s ≡ got tt s
end_always s h = end_at s.left s.end h

pub ends_only : (s : State) → ends s ≡ true → texts s.left ≡ []
ends_only s e = let g = got_is (end s) e in (end_only s g.1 g.2).0

pub ends_always : (s : State) → texts s.left ≡ [] → ends s ≡ true
ends_always s h = ap is_got (end_always s h)
