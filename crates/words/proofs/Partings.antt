-- Where a reader declines: at the first word where what stands parts from all that may stand.
use Rattle.std.proofs.Common.{◌≡◌, ℕ, false, List, [], ◌∷◌, ◌++◌, ℤ, Some, None, Option, sym, refl, ap, ◌∙◌, subst, append_assoc}
use Rattle.words.specs.Lines.{Word, texts}
use Rattle.words.specs.Numerals.{value_of}
use Rattle.words.specs.Grammar.{State, Reader, is_got, is_bracket_text}

-- the first of some words, and the place of the first of what is left, or that after the last byte
abbrev pub front : List (List ℕ) → Option (List ℕ)
front [] = None
front (t ∷ ts) = Some t

abbrev pub place_in : ℕ → List Word → ℕ
place_in e [] = e
place_in e (w ∷ ws) = w.place

-- a numeral may stand after these words
pub record Numeral (B : List (List ℕ) → Type 0) (ts : List (List ℕ)) : Type 0 where
  pub text : List ℕ
  pub value : ℤ
  pub says : value_of text ≡ Some value
  pub begins : B (ts ++ (text ∷ []))

-- the number of a decline at a word, where Num says that a numeral may stand there
pub data Number (Num : Type 0) (n : ℕ) (x : Option (List ℕ)) : Type 0 where
  other : n ≡ 5 → Number Num n x
  no_numeral : n ≡ 6 → (w : List ℕ) → x ≡ Some w → is_bracket_text w ≡ false → value_of w ≡ None → Num → Number Num n x
  no_range : n ≡ 7 → (w : List ℕ) → (z : ℤ) → x ≡ Some w → value_of w ≡ Some z → Num → Number Num n x

-- the same word, or, at a word that is declined with 5 and is no bracket, a numeral
pub data Like (n : ℕ) (x y : Option (List ℕ)) : Type 0 where
  same : x ≡ y → Like n x y
  numeral : n ≡ 5 → (w v : List ℕ) → (z : ℤ) → x ≡ Some w → y ≡ Some v → is_bracket_text w ≡ false → value_of v ≡ Some z → Like n x y

-- the reader r declines at the first of the words left: those before begin something that B has, and whatever has the same
-- words before and a word like it next is declined too
pub record Parts {A : Type 0} (r : Reader A) (B : List (List ℕ) → Type 0) (s : State) (n p : ℕ) : Type 0 where
  pub before : List Word
  pub left : List Word
  pub words : s.left ≡ before ++ left
  pub place : place_in s.end left ≡ p
  pub number : Number (Numeral B (texts before)) n (front (texts left))
  pub early : B (texts before)
  pub late : (t : State) (ts : List (List ℕ)) → texts t.left ≡ texts before ++ ts → Like n (front (texts left)) (front ts) → is_got (r t) ≡ false

pub texts_append : (xs ys : List Word) → texts (xs ++ ys) ≡ texts xs ++ texts ys
texts_append [] ys = refl
texts_append (x ∷ xs) ys = ap (λ ts. x.text ∷ ts) (texts_append xs ys)

number_by : {Num Num' : Type 0} (n : ℕ) (x : Option (List ℕ)) → (Num → Num') → Number Num n x → Number Num' n x
number_by n x f (other e) = other e
number_by n x f (no_numeral e w h b v m) = no_numeral e w h b v (f m)
number_by n x f (no_range e w z h v m) = no_range e w z h v (f m)

likes : (n : ℕ) (b us ts : List (List ℕ)) → Like n (front us) (front ts) → Like n (front (b ++ us)) (front (b ++ ts))
likes n [] us ts l = l
likes n (w ∷ b) us ts l = same refl

-- where one reader declines, one that begins with it does
pub onward : {A C : Type 0} (r : Reader A) (r' : Reader C) (B B' : List (List ℕ) → Type 0) (s : State) (n p : ℕ) → Parts r B s n p → ((ts : List (List ℕ)) → B ts → B' ts) → ((t : State) → Like n (front (texts s.left)) (front (texts t.left)) → is_got (r t) ≡ false → is_got (r' t) ≡ false) → Parts r' B' s n p
onward r r' B B' s n p q up down = record {
  before = q.before;
  left = q.left;
  words = q.words;
  place = q.place;
  number = number_by n (front (texts q.left)) (λ m. record { text = m.text; value = m.value; says = m.says; begins = up (texts q.before ++ (m.text ∷ [])) m.begins }) q.number;
  early = up (texts q.before) q.early;
  late = λ t ts e l.
      let a : texts s.left ≡ texts q.before ++ texts q.left = ap texts q.words ∙ texts_append q.before q.left in
      let k = likes n (texts q.before) (texts q.left) ts l in
      down t (subst (λ ys. Like n (front (texts s.left)) (front ys)) (sym e) (subst (λ xs. Like n (front xs) (front (texts q.before ++ ts))) (sym a) k)) (q.late t ts e l);
}

-- what is left of the words after the ones of ws
pub record Kept (s t : State) (ws : List (List ℕ)) : Type 0 where
  pub front : List Word
  pub words : s.left ≡ front ++ t.left
  pub said : texts front ≡ ws
  pub end : t.end ≡ s.end

-- where a reader comes to words at which the next declines
pub later : {A C : Type 0} (r : Reader A) (r' : Reader C) (B B' : List (List ℕ) → Type 0) (ws : List (List ℕ)) (s u : State) (n p : ℕ) → Kept s u ws → Parts r B u n p → ((ts : List (List ℕ)) → B ts → B' (ws ++ ts)) → ((t : State) (ts : List (List ℕ)) → texts t.left ≡ ws ++ ts → (v : State) × (texts v.left ≡ ts) × (is_got (r v) ≡ false → is_got (r' t) ≡ false)) → Parts r' B' s n p
later r r' B B' ws s u n p k q up down =
    let b : texts (k.front ++ q.before) ≡ ws ++ texts q.before = texts_append k.front q.before ∙ ap (λ xs. xs ++ texts q.before) k.said in
    record {
      before = k.front ++ q.before;
      left = q.left;
      words = k.words ∙ ap (λ xs. k.front ++ xs) q.words ∙ sym (append_assoc k.front q.before q.left);
      place = ap (λ e. place_in e q.left) (sym k.end) ∙ q.place;
      number =
          number_by n (front (texts q.left))
          (λ m. record {
            text = m.text;
            value = m.value;
            says = m.says;
            begins = subst B' (sym (append_assoc ws (texts q.before) (m.text ∷ [])) ∙ ap (λ xs. xs ++ (m.text ∷ [])) (sym b)) (up (texts q.before ++ (m.text ∷ [])) m.begins);
          })
          q.number;
      early = subst B' (sym b) (up (texts q.before) q.early);
      late = λ t ts e l.
          let h : texts t.left ≡ ws ++ (texts q.before ++ ts) = e ∙ ap (λ xs. xs ++ ts) b ∙ append_assoc ws (texts q.before) ts in
          let d = down t (texts q.before ++ ts) h in
          d.2 (q.late d.0 ts d.1 l);
    }
