-- The law of every shape, by recursion.
use Rattle.std.proofs.Common.{◌≡◌, ℕ, zero, suc, ◌^◌, ◌<◌, ◌≤◌, Bool, true, false, List, [], ◌∷◌, ◌++◌, length, ℤ, pos, ◌≤ℤ◌, Some, None, inl, inr, sym, refl, ap, ◌∙◌, subst, ⊎_elim, append_assoc, arith}
use Rattle.std.specs.Fmt.{signed_decimal}
use Rattle.std.specs.Str.{bytes_eq}
use Rattle.std.specs.Prelude.{nat_abs, int_le, not, ◌&&◌}
use Rattle.std.proofs.lemmas.Bool.{cond-true, cond-false, cases_Bool, both_ways, and_parts, and_from, and_right, not-true}
use Rattle.std.proofs.lemmas.Int.{ints}
use Rattle.terms.proofs.Ints.{le_test, test_le}
use Rattle.words.specs.Lines.{texts}
use Rattle.words.specs.Numerals.{value_of}
use Rattle.words.specs.Grammar.{State, Answer, got, bind, give, past, word, within, number, stands, up_to, close_text}
use Rattle.words.specs.Shapes.{Shape, nothing, natural, whole, after, ended, both, many, either, put, read, words_of, words_of_each, Fits, EachFits}
use Rattle.words.specs.Laws.{opens, TenDigits, Sound, Took, Law}
use Rattle.words.proofs.ReaderFacts.{got_same, chain, join, same_bytes, word_only, word_always, number_only, number_always, stands_only, stands_always, one_word}

pub within_parts : (lo hi z : ℤ) → within lo hi z ≡ true → (lo ≤ℤ z) × (z ≤ℤ hi)
within_parts lo hi z e = let p = and_parts (int_le lo z) (int_le z hi) e in (test_le lo z p.0, test_le z hi p.1)

pub within_from : (lo hi z : ℤ) → lo ≤ℤ z → z ≤ℤ hi → within lo hi z ≡ true
within_from lo hi z g h = and_from _ _ (le_test lo z g) (le_test z hi h)

ten_digits : (lo hi z : ℤ) → TenDigits lo hi → lo ≤ℤ z → z ≤ℤ hi → nat_abs z < 10 ^ 10
ten_digits lo hi z t g h = let l = t.low in let u = t.high in omega (arith, ints)

-- nothing is read where a closing bracket stands

module _ (w : List ℕ) (n : not (bytes_eq w close_text) ≡ true) where
  closed_word : (s t : State) → word w s ≡ got tt t → stands close_text s ≡ false
  closed_word s t e =
      ⊎_elim
      (λ y.
      let g = stands_only close_text s y in
      let h : w ≡ close_text = one_word w close_text s t g.0 (word_only w s t e) (word_only close_text s g.0 g.1) in
      absurd (both_ways _ (not-true _ n) (same_bytes _ _ h)))
      (λ f. f)
      (cases_Bool (stands close_text s))

closed_number : (lo hi : ℤ) (s t : State) (z : ℤ) → number lo hi s ≡ got z t → stands close_text s ≡ false
closed_number lo hi s t z e =
    let n = number_only lo hi s t z e in
    ⊎_elim
    (λ y.
    let g = stands_only close_text s y in
    let h : signed_decimal z ≡ close_text = one_word (signed_decimal z) close_text s t g.0 n.passed (word_only close_text s g.0 g.1) in
    let k : None ≡ Some z = sym (ap value_of h) ∙ n.said in
    absurd (let u : ◌≡◌ {A = ℕ} 0 1 = cc in omega arith))
    (λ f. f)
    (cases_Bool (stands close_text s))

pub closed : {A : Type 0} (f : Shape A) → Sound f → opens f ≡ true → (s t : State) (a : A) → read f s ≡ got a t → stands close_text s ≡ false
unfolding up_to
closed nothing h o s t a e = absurd (both_ways false refl o)
closed (natural lo hi) h o s t a e = let c = chain (number lo hi s) (λ z. give (nat_abs z)) a t e in closed_number lo hi s c.state c.value c.this
closed (whole lo hi) h o s t a e = closed_number lo hi s t a e
closed (after w f) h o s t a e = let c = chain (word w s) (λ _. read f) a t e in closed_word w o s c.state c.this
closed (ended f) h o s t a e = let c = chain (read f s) (λ b s₁. bind (word close_text s₁) (λ _. give b)) a t e in closed f h o s c.state c.value c.this
closed (both f g) h o s t a e = let c = chain (read f s) (λ b s₁. bind (read g s₁) (λ d. give (b, d))) a t e in closed f h.0 o s c.state c.value c.this
closed (many zero f) h o s t a e = absurd (let k : 1 ≤ 0 = h.0 in omega arith)
closed (many (suc n) f) h o s t a e =
    let c = chain (read f s) (λ x s₁. bind (up_to n true (read f) s₁) (λ xs. give (x ∷ xs))) a t e in
    closed f h.2 o s c.state c.value c.this
closed (either v f w g) h o s t a e =
    let p = and_parts (not (bytes_eq v close_text)) (not (bytes_eq w close_text)) o in
    ⊎_elim
    (λ (y : stands v s ≡ true).
    let c = chain (word v s) (λ _ s₁. bind (read f s₁) (λ b. give (inl b))) a t (sym (cond-true _ _ _ y) ∙ e) in
    closed_word v p.0 s c.state c.this)
    (λ (y : stands v s ≡ false).
    let c = chain (word w s) (λ _ s₁. bind (read g s₁) (λ b. give (inr b))) a t (sym (cond-false _ _ _ y) ∙ e) in
    closed_word w p.1 s c.state c.this)
    (cases_Bool (stands v s))
closed (put to from f) h o s t a e = let c = chain (read f s) (λ b. give (to b)) a t e in closed f h.2 o s c.state c.value c.this

-- a repeated shape: what is read of it is there
record Several {A : Type 0} (f : Shape A) (n : ℕ) (follows : Bool) (s : State) (xs : List A) (t : State) : Type 0 where
  few : length xs ≤ n
  some : 1 ≤ n → follows ≡ false → 1 ≤ length xs
  fit : EachFits (Fits f) xs
  words : texts s.left ≡ words_of_each (words_of f) xs ++ texts t.left
  end : t.end ≡ s.end

module _ {A : Type 0} (f : Shape A) (l : (s t : State) (a : A) → read f s ≡ got a t → Took f s a t) where
  none_read : (n : ℕ) (s t : State) (xs : List A) (follows : Bool) → (1 ≤ n → follows ≡ false → 1 ≤ 0) → bind (word close_text s) (λ _. give []) ≡ got xs t → Several f n follows s xs t
  none_read n s t xs follows k e =
      let c = chain (word close_text s) (λ _. give []) xs t e in
      let g = got_same [] xs c.state t c.next in
      let w = word_only close_text s c.state c.this in
      subst (λ ys. Several f n follows s ys t) g.value (record {
        few = omega arith;
        some = k;
        fit = tt;
        words = w.words ∙ ap (λ u. close_text ∷ texts u.left) g.state;
        end = ap (λ u. u.end) (sym g.state) ∙ w.end;
      })

  several : (n : ℕ) (follows : Bool) (s t : State) (xs : List A) → up_to n follows (read f) s ≡ got xs t → Several f n follows s xs t
  unfolding up_to
  several zero follows s t xs e = none_read zero s t xs follows (λ h _. absurd (omega arith)) e
  several (suc n) follows s t xs e =
      ⊎_elim
      (λ (y : (follows && stands close_text s) ≡ true).
      let p = and_parts follows (stands close_text s) y in
      none_read (suc n) s t xs follows (λ _ h. absurd (both_ways follows h p.0)) (sym (cond-true _ _ _ y) ∙ e))
      (λ (y : (follows && stands close_text s) ≡ false).
      let c = chain (read f s) (λ x s₁. bind (up_to n true (read f) s₁) (λ ys. give (x ∷ ys))) xs t (sym (cond-false _ _ _ y) ∙ e) in
      let d = chain (up_to n true (read f) c.state) (λ ys. give (c.value ∷ ys)) xs t c.next in
      let g = got_same (c.value ∷ d.value) xs d.state t d.next in
      let o = l s c.state c.value c.this in
      let r = several n true c.state d.state d.value d.this in
      subst (λ u. Several f (suc n) follows s xs u) g.state (subst (λ ys. Several f (suc n) follows s ys d.state) g.value (record {
        few = let k = r.few in omega arith;
        some = λ _ _. omega arith;
        fit = (o.fits, r.fit);
        words = o.words ∙ ap (λ ws. words_of f c.value ++ ws) r.words ∙ sym (append_assoc (words_of f c.value) (words_of_each (words_of f) d.value) (texts d.state.left));
        end = r.end ∙ o.end;
      })))
      (cases_Bool (follows && stands close_text s))

-- what stands is read, up to a state with these words left
record Reaches {A : Type 0} (x : Answer A) (a : A) (ts : List (List ℕ)) : Type 0 where
  state : State
  answer : x ≡ got a state
  left : texts state.left ≡ ts

close_reached : (s : State) (ts : List (List ℕ)) → texts s.left ≡ close_text ∷ ts → Reaches (word close_text s) tt ts
close_reached s ts h = let w = word_always close_text s ts h in record { state = past s; answer = w.0; left = w.1 }

module _ {A : Type 0} (f : Shape A) (l : (s : State) (a : A) (ts : List (List ℕ)) → Fits f a → texts s.left ≡ words_of f a ++ ts → Reaches (read f s) a ts) (c : (s t : State) (a : A) → read f s ≡ got a t → stands close_text s ≡ false) where
  reached : (n : ℕ) (follows : Bool) (s : State) (xs : List A) (ts : List (List ℕ)) → length xs ≤ n → (follows ≡ false → 1 ≤ length xs) → EachFits (Fits f) xs → texts s.left ≡ words_of_each (words_of f) xs ++ ts → Reaches (up_to n follows (read f) s) xs ts
  unfolding up_to
  reached zero follows s [] ts few some fit h =
      let w = close_reached s ts h in
      record { state = w.state; answer = join (word close_text s) (λ _. give []) tt w.state w.answer; left = w.left }
  reached zero follows s (x ∷ xs) ts few some fit h = absurd (omega arith)
  reached (suc n) false s [] ts few some fit h = absurd (let k : 1 ≤ 0 = some refl in omega arith)
  reached (suc n) true s [] ts few some fit h =
      let w = close_reached s ts h in
      record {
        state = w.state;
        answer = cond-true _ _ _ (stands_always close_text s w.state w.answer) ∙ join (word close_text s) (λ _. give []) tt w.state w.answer;
        left = w.left;
      }
  reached (suc n) follows s (x ∷ xs) ts few some fit h =
      let u = l s x (words_of_each (words_of f) xs ++ ts) fit.0 (h ∙ append_assoc (words_of f x) (words_of_each (words_of f) xs) ts) in
      let v = reached n true u.state xs ts (omega arith) (λ e. absurd (both_ways true e refl)) fit.1 u.left in
      record {
        state = v.state;
        answer =
            cond-false _ _ _ (and_right follows (stands close_text s) (c s u.state x u.answer))
            ∙ join (read f s) (λ y s₁. bind (up_to n true (read f) s₁) (λ ys. give (y ∷ ys))) x u.state u.answer
            ∙ join (up_to n true (read f) u.state) (λ ys. give (x ∷ ys)) xs v.state v.answer;
        left = v.left;
      }

always : {A : Type 0} (f : Shape A) → Sound f → (s : State) (a : A) (ts : List (List ℕ)) → Fits f a → texts s.left ≡ words_of f a ++ ts → Reaches (read f s) a ts
always nothing h s a ts fit e = record { state = s; answer = refl; left = e }
always (natural lo hi) h s a ts fit e =
    let small : nat_abs (pos a) < 10 ^ 10 = ten_digits lo hi (pos a) h.1 fit.0 fit.1 in
    let n = number_always lo hi s (pos a) ts small (within_from lo hi (pos a) fit.0 fit.1) e in
    record { state = past s; answer = join (number lo hi s) (λ z. give (nat_abs z)) (pos a) (past s) n.0; left = n.1 }
always (whole lo hi) h s a ts fit e =
    let small : nat_abs a < 10 ^ 10 = ten_digits lo hi a h fit.0 fit.1 in
    let n = number_always lo hi s a ts small (within_from lo hi a fit.0 fit.1) e in
    record { state = past s; answer = n.0; left = n.1 }
always (after w f) h s a ts fit e =
    let x = word_always w s (words_of f a ++ ts) e in
    let u = always f h (past s) a ts fit x.1 in
    record { state = u.state; answer = join (word w s) (λ _. read f) tt (past s) x.0 ∙ u.answer; left = u.left }
always (ended f) h s a ts fit e =
    let u = always f h s a (close_text ∷ ts) fit (e ∙ append_assoc (words_of f a) (close_text ∷ []) ts) in
    let w = close_reached u.state ts u.left in
    record {
      state = w.state;
      answer = join (read f s) (λ b s₁. bind (word close_text s₁) (λ _. give b)) a u.state u.answer ∙ join (word close_text u.state) (λ _. give a) tt w.state w.answer;
      left = w.left;
    }
always (both f g) h s a ts fit e =
    let u = always f h.0 s a.0 (words_of g a.1 ++ ts) fit.0 (e ∙ append_assoc (words_of f a.0) (words_of g a.1) ts) in
    let v = always g h.1 u.state a.1 ts fit.1 u.left in
    record {
      state = v.state;
      answer = join (read f s) (λ b s₁. bind (read g s₁) (λ d. give (b, d))) a.0 u.state u.answer ∙ join (read g u.state) (λ d. give (a.0, d)) a.1 v.state v.answer;
      left = v.left;
    }
always (many n f) h s a ts fit e = reached f (always f h.2) (closed f h.2 h.1) n false s a ts fit.1 (λ _. fit.0) fit.2 e
always (either v f w g) h s (inl a) ts fit e =
    let x = word_always v s (words_of f a ++ ts) e in
    let u = always f h.1 (past s) a ts fit x.1 in
    record {
      state = u.state;
      answer =
          cond-true _ _ _ (stands_always v s (past s) x.0)
          ∙ join (word v s) (λ _ s₁. bind (read f s₁) (λ b. give (inl b))) tt (past s) x.0
          ∙ join (read f (past s)) (λ b. give (inl b)) a u.state u.answer;
      left = u.left;
    }
always (either v f w g) h s (inr a) ts fit e =
    let x = word_always w s (words_of g a ++ ts) e in
    let u = always g h.2 (past s) a ts fit x.1 in
    let other : stands v s ≡ false =
    ⊎_elim
    (λ y.
    let k = stands_only v s y in
    let i : w ≡ v = one_word w v s (past s) k.0 (word_only w s (past s) x.0) (word_only v s k.0 k.1) in
    absurd (both_ways _ h.0 (same_bytes _ _ i)))
    (λ n. n)
    (cases_Bool (stands v s)) in
    record {
      state = u.state;
      answer =
          cond-false _ _ _ other
          ∙ join (word w s) (λ _ s₁. bind (read g s₁) (λ b. give (inr b))) tt (past s) x.0
          ∙ join (read g (past s)) (λ b. give (inr b)) a u.state u.answer;
      left = u.left;
    }
always (put to from f) h s a ts fit e =
    let u = always f h.2 s (from a) ts fit e in
    record { state = u.state; answer = join (read f s) (λ b. give (to b)) (from a) u.state u.answer ∙ ap (λ b. got b u.state) (h.1 a); left = u.left }

-- a value that fits where it was read by the number of its sign and digits
magnitude_is : (lo z : ℤ) → pos 0 ≤ℤ lo → lo ≤ℤ z → pos (nat_abs z) ≡ z
magnitude_is lo z g h = omega (arith, ints)

only : {A : Type 0} (f : Shape A) → Sound f → (s t : State) (a : A) → read f s ≡ got a t → Took f s a t
only nothing h s t a e =
    let g = got_same tt a s t e in
    record { fits = tt; words = ap (λ (u : State). texts u.left) g.state; end = ap (λ (u : State). u.end) (sym g.state) }
only (natural lo hi) h s t a e =
    let c = chain (number lo hi s) (λ z. give (nat_abs z)) a t e in
    let g = got_same (nat_abs c.value) a c.state t c.next in
    let n = number_only lo hi s c.state c.value c.this in
    let p = within_parts lo hi c.value n.range in
    let z : pos (nat_abs c.value) ≡ c.value = magnitude_is lo c.value h.0 p.0 in
    subst (Took (natural lo hi) s a) g.state (subst (λ b. Took (natural lo hi) s b c.state) g.value (record {
      fits = rw z p;
      words = n.passed.words ∙ ap (λ y. signed_decimal y ∷ texts c.state.left) (sym z);
      end = n.passed.end;
    }))
only (whole lo hi) h s t a e =
    let n = number_only lo hi s t a e in
    record { fits = within_parts lo hi a n.range; words = n.passed.words; end = n.passed.end }
only (after w f) h s t a e =
    let c = chain (word w s) (λ _. read f) a t e in
    let w₁ = word_only w s c.state c.this in
    let o = only f h c.state t a c.next in
    record { fits = o.fits; words = w₁.words ∙ ap (λ ws. w ∷ ws) o.words; end = o.end ∙ w₁.end }
only (ended f) h s t a e =
    let c = chain (read f s) (λ b s₁. bind (word close_text s₁) (λ _. give b)) a t e in
    let d = chain (word close_text c.state) (λ _. give c.value) a t c.next in
    let g = got_same c.value a d.state t d.next in
    let o = only f h s c.state c.value c.this in
    let w = word_only close_text c.state d.state d.this in
    subst (Took (ended f) s a) g.state (subst (λ b. Took (ended f) s b d.state) g.value (record {
      fits = o.fits;
      words = o.words ∙ ap (λ ws. words_of f c.value ++ ws) w.words ∙ sym (append_assoc (words_of f c.value) (close_text ∷ []) (texts d.state.left));
      end = w.end ∙ o.end;
    }))
only (both f g) h s t a e =
    let c = chain (read f s) (λ b s₁. bind (read g s₁) (λ d. give (b, d))) a t e in
    let d = chain (read g c.state) (λ y. give (c.value, y)) a t c.next in
    let i = got_same (c.value, d.value) a d.state t d.next in
    let o = only f h.0 s c.state c.value c.this in
    let w = only g h.1 c.state d.state d.value d.this in
    subst (Took (both f g) s a) i.state (subst (λ b. Took (both f g) s b d.state) i.value (record {
      fits = (o.fits, w.fits);
      words = o.words ∙ ap (λ ws. words_of f c.value ++ ws) w.words ∙ sym (append_assoc (words_of f c.value) (words_of g d.value) (texts d.state.left));
      end = w.end ∙ o.end;
    }))
only (many n f) h s t a e =
    let r = several f (only f h.2) n false s t a e in
    record { fits = (r.some h.0 refl, r.few, r.fit); words = r.words; end = r.end }
only (either v f w g) h s t a e =
    ⊎_elim
    (λ (y : stands v s ≡ true).
    let c = chain (word v s) (λ _ s₁. bind (read f s₁) (λ b. give (inl b))) a t (sym (cond-true _ _ _ y) ∙ e) in
    let d = chain (read f c.state) (λ b. give (inl b)) a t c.next in
    let i = got_same (inl d.value) a d.state t d.next in
    let w₁ = word_only v s c.state c.this in
    let o = only f h.1 c.state d.state d.value d.this in
    subst (Took (either v f w g) s a) i.state (subst (λ b. Took (either v f w g) s b d.state) i.value (record {
      fits = o.fits;
      words = w₁.words ∙ ap (λ ws. v ∷ ws) o.words;
      end = o.end ∙ w₁.end;
    })))
    (λ (y : stands v s ≡ false).
    let c = chain (word w s) (λ _ s₁. bind (read g s₁) (λ b. give (inr b))) a t (sym (cond-false _ _ _ y) ∙ e) in
    let d = chain (read g c.state) (λ b. give (inr b)) a t c.next in
    let i = got_same (inr d.value) a d.state t d.next in
    let w₁ = word_only w s c.state c.this in
    let o = only g h.2 c.state d.state d.value d.this in
    subst (Took (either v f w g) s a) i.state (subst (λ b. Took (either v f w g) s b d.state) i.value (record {
      fits = o.fits;
      words = w₁.words ∙ ap (λ ws. w ∷ ws) o.words;
      end = o.end ∙ w₁.end;
    })))
    (cases_Bool (stands v s))
only (put to from f) h s t a e =
    let c = chain (read f s) (λ b. give (to b)) a t e in
    let g = got_same (to c.value) a c.state t c.next in
    let o = only f h.2 s c.state c.value c.this in
    let z : c.value ≡ from a = sym (h.0 c.value) ∙ ap from g.value in
    subst (Took (put to from f) s a) g.state (record {
      fits = subst (Fits f) z o.fits;
      words = o.words ∙ ap (λ b. words_of f b ++ texts c.state.left) z;
      end = o.end;
    })

-- the law of every shape that is sound
pub law : {A : Type 0} (f : Shape A) → Sound f → Law f
law f h = record {
  only = only f h;
  always = λ s a ts fit e. let u = always f h s a ts fit e in (u.state, u.answer, u.left);
}
