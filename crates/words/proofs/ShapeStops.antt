-- Where a shape is declined: at the first word where what stands parts from all that the shape may have.
use Rattle.std.proofs.Common.{◌≡◌, ℕ, zero, suc, ◌≤◌, Bool, true, false, List, [], ◌∷◌, ◌++◌, length, pos, ◌≤ℤ◌, None, inl, inr, sym, refl, ap, ◌∙◌, subst, ⊎_elim, append_assoc, arith}
use Rattle.std.specs.Fmt.{signed_decimal}
use Rattle.std.specs.Str.{bytes_eq}
use Rattle.std.specs.Prelude.{nat_abs, ◌&&◌}
use Rattle.std.proofs.lemmas.Bool.{cond-true, cond-false, cases_Bool, both_ways, and_parts, and_right}
use Rattle.std.proofs.lemmas.Int.{ints}
use Rattle.words.specs.Lines.{Word, texts}
use Rattle.words.specs.Numerals.{value_of}
use Rattle.words.specs.Grammar.{State, Answer, Reader, got, no, bind, give, past, is_got, word, number, stands, up_to, close_text}
use Rattle.words.specs.Shapes.{Shape, nothing, natural, whole, after, ended, both, many, either, put, read, words_of, words_of_each, Fits, EachFits}
use Rattle.words.specs.Laws.{opens, Sound}
use Rattle.words.proofs.ReaderFacts.{never, got_same, chain, join, word_only, word_always, stands_only, stands_always, one_word, same_bytes}
use Rattle.words.proofs.Laws.{law, closed}
use Rattle.words.proofs.Partings.{front, Like, Parts, onward, later, Kept}
use Rattle.words.proofs.Stops.{Starts, StartsNumeral, word_parts, unlike, number_parts, word_kept, number_kept, kept_by, declined_if}

-- no word of the shape is a numeral, and no range is empty
abbrev pub Clear : {A : Type 0} → Shape A → Type 0
Clear nothing = Unit {0}
Clear (natural lo hi) = lo ≤ℤ hi
Clear (whole lo hi) = lo ≤ℤ hi
Clear (after w f) = (value_of w ≡ None) × Clear f
Clear (ended f) = Clear f
Clear (both f g) = Clear f × Clear g
Clear (many n f) = Clear f
Clear (either v f w g) = (value_of v ≡ None) × (value_of w ≡ None) × Clear f × Clear g
Clear (put to from f) = Clear f

-- a value that fits
pub record Filled {A : Type 0} (f : Shape A) : Type 0 where
  pub value : A
  pub fits : Fits f value

pub filled : {A : Type 0} (f : Shape A) → Sound f → Clear f → Filled f
filled nothing h c = record { value = tt; fits = tt }
filled (natural lo hi) h c =
    let e : pos (nat_abs lo) ≡ lo = let g = h.0 in omega (arith, ints) in
    let l : lo ≤ℤ lo = omega (arith, ints) in
    let k : lo ≤ℤ hi = c in
    record { value = nat_abs lo; fits = rw e (l, k) }
filled (whole lo hi) h c = record { value = lo; fits = (omega (arith, ints), c) }
filled (after w f) h c = let x = filled f h c.1 in record { value = x.value; fits = x.fits }
filled (ended f) h c = let x = filled f h c in record { value = x.value; fits = x.fits }
filled (both f g) h c = let x = filled f h.0 c.0 in let y = filled g h.1 c.1 in record { value = (x.value, y.value); fits = (x.fits, y.fits) }
filled (many n f) h c = let x = filled f h.2 c in record { value = x.value ∷ []; fits = (omega arith, h.0, (x.fits, tt)) }
filled (either v f w g) h c = let x = filled f h.1 c.2 in record { value = inl x.value; fits = x.fits }
filled (put to from f) h c = let x = filled f h.2 c in record { value = to x.value; fits = subst (Fits f) (sym (h.0 x.value)) x.fits }

-- what the words of some value begin with
pub record Begun {A : Type 0} (f : Shape A) (ts : List (List ℕ)) : Type 0 where
  pub value : A
  pub fits : Fits f value
  pub rest : List (List ℕ)
  pub words : words_of f value ≡ ts ++ rest

record BegunEach {A : Type 0} (f : Shape A) (n : ℕ) (follows : Bool) (ts : List (List ℕ)) : Type 0 where
  values : List A
  few : length values ≤ n
  some : 1 ≤ n → follows ≡ false → 1 ≤ length values
  fit : EachFits (Fits f) values
  rest : List (List ℕ)
  words : words_of_each (words_of f) values ≡ ts ++ rest

-- more words at the end, and words in front
more : (xs ts rest ys : List (List ℕ)) → xs ≡ ts ++ rest → xs ++ ys ≡ ts ++ (rest ++ ys)
more xs ts rest ys e = ap (λ zs. zs ++ ys) e ∙ append_assoc ts rest ys

before : (ws xs ts rest : List (List ℕ)) → xs ≡ ts ++ rest → ws ++ xs ≡ ws ++ ts ++ rest
before ws xs ts rest e = ap (λ zs. ws ++ zs) e ∙ sym (append_assoc ws ts rest)

-- the first of two readers declines, or the second
pub data Which {A B : Type 0} (x : Answer A) (f : A → Reader B) (n p : ℕ) : Type 0 where
  one : x ≡ no n p → Which x f n p
  two : (a : A) → (s : State) → x ≡ got a s → f a s ≡ no n p → Which x f n p

pub which : {A B : Type 0} (x : Answer A) (f : A → Reader B) (n p : ℕ) → bind x f ≡ no n p → Which x f n p
which (got a s) f n p e = two a s refl e
which (no m q) f n p e = one (let z : m ≡ n = cc in let y : q ≡ p = cc in ap (λ k. no k q) z ∙ ap (no n) y)

pub no_bind : {A B : Type 0} (x : Answer A) (f : A → Reader B) → is_got x ≡ false → is_got (bind x f) ≡ false
no_bind (got a s) f e = absurd (both_ways _ e refl)
no_bind (no n p) f e = refl

pub no_after : {A B : Type 0} (x : Answer A) (f : A → Reader B) (a : A) (s : State) → x ≡ got a s → is_got (f a s) ≡ false → is_got (bind x f) ≡ false
no_after x f a s e h = ap is_got (join x f a s e) ∙ h

-- what is left of the words
record Left (s t : State) : Type 0 where
  front : List Word
  words : s.left ≡ front ++ t.left

left_of : (s t : State) (ws : List (List ℕ)) → Kept s t ws → Left s t
left_of s t ws k = record { front = k.front; words = k.words }

left_same : (s t : State) → s ≡ t → Left s t
left_same s t e = record { front = []; words = ap (λ (u : State). u.left) e }

left_then : (s u t : State) → Left s u → Left u t → Left s t
left_then s u t x y = record { front = x.front ++ y.front; words = x.words ∙ ap (λ ws. x.front ++ ws) y.words ∙ sym (append_assoc x.front y.front t.left) }

module _ {A : Type 0} (f : Shape A) (l : (s t : State) (a : A) → read f s ≡ got a t → Left s t) where
  closed_left : (s t : State) (xs : List A) → bind (word close_text s) (λ _. give []) ≡ got xs t → Left s t
  closed_left s t xs e =
      let c = chain (word close_text s) (λ _. give []) xs t e in
      let g = got_same [] xs c.state t c.next in
      left_then s c.state t (left_of s c.state (close_text ∷ []) (word_kept close_text s c.state c.this)) (left_same c.state t g.state)

  each_left : (n : ℕ) (follows : Bool) (s t : State) (xs : List A) → up_to n follows (read f) s ≡ got xs t → Left s t
  unfolding up_to
  each_left zero follows s t xs e = closed_left s t xs e
  each_left (suc n) follows s t xs e =
      ⊎_elim
      (λ (y : (follows && stands close_text s) ≡ true). closed_left s t xs (sym (cond-true _ _ _ y) ∙ e))
      (λ (y : (follows && stands close_text s) ≡ false).
      let c = chain (read f s) (λ x s₁. bind (up_to n true (read f) s₁) (λ ys. give (x ∷ ys))) xs t (sym (cond-false _ _ _ y) ∙ e) in
      let d = chain (up_to n true (read f) c.state) (λ ys. give (c.value ∷ ys)) xs t c.next in
      let g = got_same (c.value ∷ d.value) xs d.state t d.next in
      left_then s c.state t (l s c.state c.value c.this)
      (left_then c.state d.state t (each_left n true c.state d.state d.value d.this) (left_same d.state t g.state)))
      (cases_Bool (follows && stands close_text s))

shape_left : {A : Type 0} (f : Shape A) → (s t : State) (a : A) → read f s ≡ got a t → Left s t
shape_left nothing s t a e = left_same s t (got_same tt a s t e).state
shape_left (natural lo hi) s t a e =
    let c = chain (number lo hi s) (λ z. give (nat_abs z)) a t e in
    let g = got_same (nat_abs c.value) a c.state t c.next in
    left_then s c.state t (left_of s c.state (signed_decimal c.value ∷ []) (number_kept lo hi s c.state c.value c.this)) (left_same c.state t g.state)
shape_left (whole lo hi) s t a e = left_of s t (signed_decimal a ∷ []) (number_kept lo hi s t a e)
shape_left (after w f) s t a e =
    let c = chain (word w s) (λ _. read f) a t e in
    left_then s c.state t (left_of s c.state (w ∷ []) (word_kept w s c.state c.this)) (shape_left f c.state t a c.next)
shape_left (ended f) s t a e =
    let c = chain (read f s) (λ b s₁. bind (word close_text s₁) (λ _. give b)) a t e in
    let d = chain (word close_text c.state) (λ _. give c.value) a t c.next in
    let g = got_same c.value a d.state t d.next in
    left_then s c.state t (shape_left f s c.state c.value c.this)
    (left_then c.state d.state t (left_of c.state d.state (close_text ∷ []) (word_kept close_text c.state d.state d.this)) (left_same d.state t g.state))
shape_left (both f g) s t a e =
    let c = chain (read f s) (λ b s₁. bind (read g s₁) (λ d. give (b, d))) a t e in
    let d = chain (read g c.state) (λ b. give (c.value, b)) a t c.next in
    let i = got_same (c.value, d.value) a d.state t d.next in
    left_then s c.state t (shape_left f s c.state c.value c.this)
    (left_then c.state d.state t (shape_left g c.state d.state d.value d.this) (left_same d.state t i.state))
shape_left (many n f) s t a e = each_left f (shape_left f) n false s t a e
shape_left (either v f w g) s t a e =
    ⊎_elim
    (λ (y : stands v s ≡ true).
    let c = chain (word v s) (λ _ s₁. bind (read f s₁) (λ b. give (inl b))) a t (sym (cond-true _ _ _ y) ∙ e) in
    let d = chain (read f c.state) (λ b. give (inl b)) a t c.next in
    let i = got_same (inl d.value) a d.state t d.next in
    left_then s c.state t (left_of s c.state (v ∷ []) (word_kept v s c.state c.this))
    (left_then c.state d.state t (shape_left f c.state d.state d.value d.this) (left_same d.state t i.state)))
    (λ (y : stands v s ≡ false).
    let c = chain (word w s) (λ _ s₁. bind (read g s₁) (λ b. give (inr b))) a t (sym (cond-false _ _ _ y) ∙ e) in
    let d = chain (read g c.state) (λ b. give (inr b)) a t c.next in
    let i = got_same (inr d.value) a d.state t d.next in
    left_then s c.state t (left_of s c.state (w ∷ []) (word_kept w s c.state c.this))
    (left_then c.state d.state t (shape_left g c.state d.state d.value d.this) (left_same d.state t i.state)))
    (cases_Bool (stands v s))
shape_left (put to from f) s t a e =
    let c = chain (read f s) (λ b. give (to b)) a t e in
    left_then s c.state t (shape_left f s c.state c.value c.this) (left_same c.state t (got_same (to c.value) a c.state t c.next).state)

pub shape_kept : {A : Type 0} (f : Shape A) → Sound f → (s t : State) (a : A) → read f s ≡ got a t → Kept s t (words_of f a)
shape_kept f h s t a e =
    let o = (law f h).only s t a e in
    let l = shape_left f s t a e in
    kept_by s t (words_of f a) (l.front, l.words) o.words o.end

no_is : {A : Type 0} (x : Answer A) → is_got x ≡ false → (n : ℕ) × (p : ℕ) × (x ≡ no n p)
no_is (got a s) e = absurd (both_ways _ e refl)
no_is (no n p) e = (n, p, refl)

-- where a word does not stand, it does not in place of a like word
unstanding : (w : List ℕ) → value_of w ≡ None → (s t : State) (m : ℕ) → stands w s ≡ false → Like m (front (texts s.left)) (front (texts t.left)) → stands w t ≡ false
unstanding w v s t m e l =
    declined_if (word w t) (λ a u g.
    let o = word_only w t u g in
    let x = no_is (word w s) e in
    unlike w v s x.0 m x.1 x.2 (subst (λ us. Like m (front (texts s.left)) (front us)) o.words l))

other_word : (v w : List ℕ) → bytes_eq w v ≡ false → (t u : State) → word w t ≡ got tt u → stands v t ≡ false
other_word v w d t u e =
    declined_if (word v t) (λ a z g. both_ways (bytes_eq w v) d (same_bytes w v (one_word w v t u z (word_only w t u e) (word_only v t z g))))

unclosed : (follows : Bool) (s t : State) (m : ℕ) → (follows && stands close_text s) ≡ false → Like m (front (texts s.left)) (front (texts t.left)) → (follows && stands close_text t) ≡ false
unclosed false s t m e l = refl
unclosed true s t m e l = unstanding close_text refl s t m e l

module _ {A : Type 0} (f : Shape A) (h : Sound f) (o : opens f ≡ true) (c : Clear f) (l : (s : State) (n p : ℕ) → read f s ≡ no n p → Parts (read f) (Begun f) s n p) where
  each_parts : (n : ℕ) (follows : Bool) (s : State) (m p : ℕ) → up_to n follows (read f) s ≡ no m p → Parts (up_to n follows (read f)) (BegunEach f n follows) s m p
  unfolding up_to
  each_parts zero follows s m p e =
      elim (which (word close_text s) (λ _. give []) m p e) [
        | one i ↦ onward (word close_text) (up_to zero follows (read f)) (Starts (close_text ∷ [])) (BegunEach f zero follows) s m p (word_parts close_text refl s m p i)
            (λ ts b. record { values = []; few = omega arith; some = λ g _. absurd (omega arith); fit = tt; rest = b.rest; words = b.words })
            (λ t _ g. no_bind (word close_text t) (λ _. give []) g)
        | two a u i k ↦ never m p [] u (sym k)
      ]
  each_parts (suc n) follows s m p e =
      ⊎_elim
      (λ (y : (follows && stands close_text s) ≡ true).
      let b = and_parts follows (stands close_text s) y in
      let u = stands_only close_text s b.1 in
      never m p [] u.0 (sym (sym (cond-true _ _ _ y) ∙ e) ∙ join (word close_text s) (λ _. give []) tt u.0 u.1))
      (λ (y : (follows && stands close_text s) ≡ false).
      elim (which (read f s) (λ x s₁. bind (up_to n true (read f) s₁) (λ xs. give (x ∷ xs))) m p (sym (cond-false _ _ _ y) ∙ e)) [
        | one i ↦ onward (read f) (up_to (suc n) follows (read f)) (Begun f) (BegunEach f (suc n) follows) s m p (l s m p i)
            (λ ts b. record {
              values = b.value ∷ [];
              few = omega arith;
              some = λ _ _. omega arith;
              fit = (b.fits, tt);
              rest = b.rest ++ (close_text ∷ []);
              words = more (words_of f b.value) ts b.rest (close_text ∷ []) b.words;
            })
            (λ t k g. ap is_got (cond-false _ _ _ (unclosed follows s t m y k)) ∙ no_bind (read f t) (λ x s₁. bind (up_to n true (read f) s₁) (λ xs. give (x ∷ xs))) g)
        | two x u i k ↦ elim (which (up_to n true (read f) u) (λ xs. give (x ∷ xs)) m p k) [
          | one j ↦ let q = (law f h).only s u x i in
              later (up_to n true (read f)) (up_to (suc n) follows (read f)) (BegunEach f n true) (BegunEach f (suc n) follows) (words_of f x) s u m p (shape_kept f h s u x i) (each_parts n true u m p j)
              (λ ts b. record {
                values = x ∷ b.values;
                few = let d = b.few in omega arith;
                some = λ _ _. omega arith;
                fit = (q.fits, b.fit);
                rest = b.rest;
                words = before (words_of f x) (words_of_each (words_of f) b.values) ts b.rest b.words;
              })
              (λ t ts g.
              let a = (law f h).always t x ts q.fits g in (
                a.0,
                a.2,
                λ d. ap is_got (cond-false _ _ _ (and_right follows (stands close_text t) (closed f h o t a.0 x a.1)))
                    ∙ no_after (read f t) (λ z s₁. bind (up_to n true (read f) s₁) (λ xs. give (z ∷ xs))) x a.0 a.1 (no_bind (up_to n true (read f) a.0) (λ xs. give (x ∷ xs)) d),
              ))
          | two ys v j d ↦ never m p (x ∷ ys) v (sym d)
        ]
      ])
      (cases_Bool (follows && stands close_text s))

-- where a shape is declined, it is parted from all its values that fit
pub parts : {A : Type 0} (f : Shape A) → Sound f → Clear f → (s : State) (n p : ℕ) → read f s ≡ no n p → Parts (read f) (Begun f) s n p
parts nothing h c s n p e = never n p tt s (sym e)
parts (natural lo hi) h c s n p e =
    elim (which (number lo hi s) (λ z. give (nat_abs z)) n p e) [
      | one i ↦ onward (number lo hi) (read (natural lo hi)) (StartsNumeral lo hi) (Begun (natural lo hi)) s n p (number_parts lo hi h.1 c s n p i)
          (λ ts b.
          let r : (pos 0 ≤ℤ lo) × (lo ≤ℤ b.value) = (h.0, b.low) in
          let z : pos (nat_abs b.value) ≡ b.value = let x = r.0 in let y = r.1 in omega (arith, ints) in
          let k : (lo ≤ℤ b.value) × (b.value ≤ℤ hi) = (b.low, b.high) in
          record { value = nat_abs b.value; fits = rw z k; rest = b.starts.rest; words = ap (λ y. signed_decimal y ∷ []) z ∙ b.starts.words })
          (λ t _ g. no_bind (number lo hi t) (λ z. give (nat_abs z)) g)
      | two z u i k ↦ never n p (nat_abs z) u (sym k)
    ]
parts (whole lo hi) h c s n p e =
    onward (number lo hi) (read (whole lo hi)) (StartsNumeral lo hi) (Begun (whole lo hi)) s n p (number_parts lo hi h c s n p e)
    (λ ts b. record { value = b.value; fits = (b.low, b.high); rest = b.starts.rest; words = b.starts.words })
    (λ t _ g. g)
parts (after w f) h c s n p e =
    elim (which (word w s) (λ _. read f) n p e) [
      | one i ↦ let x = filled f h c.1 in
          onward (word w) (read (after w f)) (Starts (w ∷ [])) (Begun (after w f)) s n p (word_parts w c.0 s n p i)
          (λ ts b. record { value = x.value; fits = x.fits; rest = b.rest ++ words_of f x.value; words = more (w ∷ []) ts b.rest (words_of f x.value) b.words })
          (λ t _ g. no_bind (word w t) (λ _. read f) g)
      | two x u i k ↦ later (read f) (read (after w f)) (Begun f) (Begun (after w f)) (w ∷ []) s u n p (word_kept w s u i) (parts f h c.1 u n p k)
          (λ ts b. record { value = b.value; fits = b.fits; rest = b.rest; words = before (w ∷ []) (words_of f b.value) ts b.rest b.words })
          (λ t ts g. let y = word_always w t ts g in (past t, y.1, λ d. no_after (word w t) (λ _. read f) tt (past t) y.0 d))
    ]
parts (ended f) h c s n p e =
    elim (which (read f s) (λ a s₁. bind (word close_text s₁) (λ _. give a)) n p e) [
      | one i ↦ onward (read f) (read (ended f)) (Begun f) (Begun (ended f)) s n p (parts f h c s n p i)
          (λ ts b. record { value = b.value; fits = b.fits; rest = b.rest ++ (close_text ∷ []); words = more (words_of f b.value) ts b.rest (close_text ∷ []) b.words })
          (λ t _ g. no_bind (read f t) (λ a s₁. bind (word close_text s₁) (λ _. give a)) g)
      | two a u i k ↦ elim (which (word close_text u) (λ _. give a) n p k) [
        | one j ↦ let q = (law f h).only s u a i in
            later (word close_text) (read (ended f)) (Starts (close_text ∷ [])) (Begun (ended f)) (words_of f a) s u n p (shape_kept f h s u a i) (word_parts close_text refl u n p j)
            (λ ts b. record { value = a; fits = q.fits; rest = b.rest; words = before (words_of f a) (close_text ∷ []) ts b.rest b.words })
            (λ t ts g.
            let x = (law f h).always t a ts q.fits g in
            (x.0, x.2, λ d. no_after (read f t) (λ b s₁. bind (word close_text s₁) (λ _. give b)) a x.0 x.1 (no_bind (word close_text x.0) (λ _. give a) d)))
        | two _ v j d ↦ never n p a v (sym d)
      ]
    ]
parts (both f g) h c s n p e =
    elim (which (read f s) (λ a s₁. bind (read g s₁) (λ b. give (a, b))) n p e) [
      | one i ↦ let y = filled g h.1 c.1 in
          onward (read f) (read (both f g)) (Begun f) (Begun (both f g)) s n p (parts f h.0 c.0 s n p i)
          (λ ts b. record { value = (b.value, y.value); fits = (b.fits, y.fits); rest = b.rest ++ words_of g y.value; words = more (words_of f b.value) ts b.rest (words_of g y.value) b.words })
          (λ t _ d. no_bind (read f t) (λ a s₁. bind (read g s₁) (λ b. give (a, b))) d)
      | two a u i k ↦ elim (which (read g u) (λ b. give (a, b)) n p k) [
        | one j ↦ let q = (law f h.0).only s u a i in
            later (read g) (read (both f g)) (Begun g) (Begun (both f g)) (words_of f a) s u n p (shape_kept f h.0 s u a i) (parts g h.1 c.1 u n p j)
            (λ ts b. record { value = (a, b.value); fits = (q.fits, b.fits); rest = b.rest; words = before (words_of f a) (words_of g b.value) ts b.rest b.words })
            (λ t ts d.
            let x = (law f h.0).always t a ts q.fits d in
            (x.0, x.2, λ m. no_after (read f t) (λ b s₁. bind (read g s₁) (λ z. give (b, z))) a x.0 x.1 (no_bind (read g x.0) (λ z. give (a, z)) m)))
        | two b v j d ↦ never n p (a, b) v (sym d)
      ]
    ]
parts (many n f) h c s m p e =
    onward (up_to n false (read f)) (read (many n f)) (BegunEach f n false) (Begun (many n f)) s m p (each_parts f h.2 h.1 c (parts f h.2 c) n false s m p e)
    (λ ts b. record { value = b.values; fits = (b.some h.0 refl, b.few, b.fit); rest = b.rest; words = b.words })
    (λ t _ g. g)
parts (either v f w g) h c s n p e =
    ⊎_elim
    (λ (y : stands v s ≡ true).
    elim (which (word v s) (λ _ s₁. bind (read f s₁) (λ a. give (inl a))) n p (sym (cond-true _ _ _ y) ∙ e)) [
      | one i ↦ let u = stands_only v s y in never n p tt u.0 (sym i ∙ u.1)
      | two x u i k ↦ elim (which (read f u) (λ a. give (inl a)) n p k) [
        | one j ↦ later (read f) (read (either v f w g)) (Begun f) (Begun (either v f w g)) (v ∷ []) s u n p (word_kept v s u i) (parts f h.1 c.2 u n p j)
            (λ ts b. record { value = inl b.value; fits = b.fits; rest = b.rest; words = before (v ∷ []) (words_of f b.value) ts b.rest b.words })
            (λ t ts d.
            let a = word_always v t ts d in (
              past t,
              a.1,
              λ m. ap is_got (cond-true _ _ _ (stands_always v t (past t) a.0))
                  ∙ no_after (word v t) (λ _ s₁. bind (read f s₁) (λ b. give (inl b))) tt (past t) a.0 (no_bind (read f (past t)) (λ b. give (inl b)) m),
            ))
        | two a z j d ↦ never n p (inl a) z (sym d)
      ]
    ])
    (λ (y : stands v s ≡ false).
    elim (which (word w s) (λ _ s₁. bind (read g s₁) (λ b. give (inr b))) n p (sym (cond-false _ _ _ y) ∙ e)) [
      | one i ↦ let x = filled g h.2 c.3 in
          onward (word w) (read (either v f w g)) (Starts (w ∷ [])) (Begun (either v f w g)) s n p (word_parts w c.1 s n p i)
          (λ ts b. record { value = inr x.value; fits = x.fits; rest = b.rest ++ words_of g x.value; words = more (w ∷ []) ts b.rest (words_of g x.value) b.words })
          (λ t l d. ap is_got (cond-false _ _ _ (unstanding v c.0 s t n y l)) ∙ no_bind (word w t) (λ _ s₁. bind (read g s₁) (λ b. give (inr b))) d)
      | two x u i k ↦ elim (which (read g u) (λ b. give (inr b)) n p k) [
        | one j ↦ later (read g) (read (either v f w g)) (Begun g) (Begun (either v f w g)) (w ∷ []) s u n p (word_kept w s u i) (parts g h.2 c.3 u n p j)
            (λ ts b. record { value = inr b.value; fits = b.fits; rest = b.rest; words = before (w ∷ []) (words_of g b.value) ts b.rest b.words })
            (λ t ts d.
            let a = word_always w t ts d in (
              past t,
              a.1,
              λ m. ap is_got (cond-false _ _ _ (other_word v w h.0 t (past t) a.0))
                  ∙ no_after (word w t) (λ _ s₁. bind (read g s₁) (λ b. give (inr b))) tt (past t) a.0 (no_bind (read g (past t)) (λ b. give (inr b)) m),
            ))
        | two a z j d ↦ never n p (inr a) z (sym d)
      ]
    ])
    (cases_Bool (stands v s))
parts (put to from f) h c s n p e =
    elim (which (read f s) (λ a. give (to a)) n p e) [
      | one i ↦ onward (read f) (read (put to from f)) (Begun f) (Begun (put to from f)) s n p (parts f h.2 c s n p i)
          (λ ts b. record {
            value = to b.value;
            fits = subst (Fits f) (sym (h.0 b.value)) b.fits;
            rest = b.rest;
            words = ap (words_of f) (h.0 b.value) ∙ b.words;
          })
          (λ t _ g. no_bind (read f t) (λ a. give (to a)) g)
      | two a u i k ↦ never n p (to a) u (sym k)
    ]
