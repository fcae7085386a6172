-- Where a word and a numeral are declined, and what is left after they are read.
use Rattle.std.proofs.Common.{◌≡◌, ℕ, ◌^◌, ◌<◌, Bool, true, false, cond, List, [], ◌∷◌, ◌++◌, ℤ, ◌≤ℤ◌, Some, None, Option, sym, refl, ap, ◌∙◌, subst, ⊎_elim, arith}
use Rattle.std.specs.Fmt.{signed_decimal}
use Rattle.std.specs.Str.{bytes_eq}
use Rattle.std.specs.Prelude.{nat_abs}
use Rattle.std.proofs.lemmas.Bool.{cond-true, cond-false, cases_Bool, both_ways}
use Rattle.std.proofs.lemmas.Option.{same_Some}
use Rattle.std.proofs.lemmas.List.{append_cancel_right}
use Rattle.std.proofs.lemmas.Int.{ints}
use Rattle.words.specs.Lines.{Word, texts}
use Rattle.words.specs.Numerals.{value_of}
use Rattle.words.specs.Grammar.{State, Answer, got, no, past, is_got, Kind, bracket, name, numeral as numeral_kind, is_bracket_text, name_unless, kind_of_text, word, within, number_at, number}
use Rattle.words.specs.Laws.{TenDigits}
use Rattle.words.proofs.Decimals.{value_decimal}
use Rattle.words.proofs.ReaderFacts.{never, got_same, word_only, word_always, number_only, number_always}
use Rattle.words.proofs.Laws.{within_parts, within_from}
use Rattle.words.proofs.Partings.{front, place_in, Numeral, Number, other, no_numeral, no_range, Like, same, numeral, Parts, Kept, texts_append}

pub record SameNo (n p m q : ℕ) : Type 0 where
  pub number : n ≡ m
  pub place : p ≡ q

pub same_no : {A : Type 0} (n p m q : ℕ) → ◌≡◌ {A = Answer A} (no n p) (no m q) → SameNo n p m q
same_no n p m q e = record { number = cc; place = cc }

pub got_is : {A : Type 0} (x : Answer A) → is_got x ≡ true → (a : A) × (s : State) × (x ≡ got a s)
got_is (got a s) e = (a, s, refl)
got_is (no n p) e = absurd (both_ways _ refl e)

-- it is declined where it cannot have been read
pub declined_if : {A : Type 0} (x : Answer A) → ((a : A) (s : State) → x ≡ got a s → ⊥) → is_got x ≡ false
declined_if (got a s) f = absurd (f a s refl)
declined_if (no n p) f = refl

pub front_is : (ts : List (List ℕ)) (w : List ℕ) → front ts ≡ Some w → (us : List (List ℕ)) × (ts ≡ w ∷ us)
front_is [] w e = let z : ◌≡◌ {A = ℕ} 0 1 = cc in absurd (omega arith)
front_is (t ∷ ts) w e = (ts, ap (λ x. x ∷ ts) (same_Some t w e))

pub none_some : {X A : Type 0} (a : A) → None ≡ Some a → X
none_some a e = let z : ◌≡◌ {A = ℕ} 0 1 = cc in absurd (omega arith)

-- what some words begin with
pub record Starts (ws ts : List (List ℕ)) : Type 0 where
  pub rest : List (List ℕ)
  pub words : ws ≡ ts ++ rest

-- a word

module _ (w : List ℕ) where
  word_no : (ws : List Word) (e n p : ℕ) → word w (record { left = ws; end = e }) ≡ no n p → SameNo 5 (place_in e ws) n p
  unfolding word
  word_no [] e n p h = same_no 5 e n p h
  word_no (x ∷ ws) e n p h =
      ⊎_elim
      (λ (y : bytes_eq x.text w ≡ true). never n p tt (record { left = ws; end = e }) (sym h ∙ cond-true _ _ _ y))
      (λ (f : bytes_eq x.text w ≡ false). same_no 5 x.place n p (sym (cond-false _ _ _ f) ∙ h))
      (cases_Bool (bytes_eq x.text w))

  -- a state with a word like the one that is declined
  pub unlike : value_of w ≡ None → (s : State) (n m p : ℕ) → word w s ≡ no n p → Like m (front (texts s.left)) (Some w) → ⊥
  unlike v s n m p e (same h) =
      let f = front_is (texts s.left) w h in
      never n p tt (past s) (sym e ∙ (word_always w s f.0 f.1).0)
  unlike v s n m p e (numeral k x y z h i b d) = none_some z (sym v ∙ ap value_of (same_Some w y i) ∙ d)

  pub word_parts : value_of w ≡ None → (s : State) (n p : ℕ) → word w s ≡ no n p → Parts (word w) (Starts (w ∷ [])) s n p
  word_parts v s n p e =
      let k = word_no s.left s.end n p e in
      record {
        before = [];
        left = s.left;
        words = refl;
        place = k.place;
        number = other (sym k.number);
        early = record { rest = w ∷ []; words = refl };
        late = λ t ts h l.
            declined_if (word w t) (λ a u g.
            let o = word_only w t u g in
            unlike v s n n p e (subst (λ us. Like n (front (texts s.left)) (front us)) (sym h ∙ o.words) l));
      }

  word_past : (ws : List Word) (e : ℕ) (t : State) → word w (record { left = ws; end = e }) ≡ got tt t → (f : List Word) × (ws ≡ f ++ t.left)
  unfolding word
  word_past [] e t h = never 5 e tt t h
  word_past (x ∷ ws) e t h =
      ⊎_elim
      (λ (y : bytes_eq x.text w ≡ true). let g = got_same tt tt (record { left = ws; end = e }) t (sym (cond-true _ _ _ y) ∙ h) in (x ∷ [], ap (λ (u : State). x ∷ u.left) g.state))
      (λ (f : bytes_eq x.text w ≡ false). never 5 x.place tt t (sym (cond-false _ _ _ f) ∙ h))
      (cases_Bool (bytes_eq x.text w))

-- the words that are read are those before what is left
pub kept_by : (s t : State) (ws : List (List ℕ)) → (f : List Word) × (s.left ≡ f ++ t.left) → texts s.left ≡ ws ++ texts t.left → t.end ≡ s.end → Kept s t ws
kept_by s t ws f w e = record {
  front = f.0;
  words = f.1;
  said = append_cancel_right (texts f.0) ws (texts t.left) (sym (texts_append f.0 t.left) ∙ ap texts (sym f.1) ∙ w);
  end = e;
}

pub word_kept : (w : List ℕ) (s t : State) → word w s ≡ got tt t → Kept s t (w ∷ [])
word_kept w s t e = let o = word_only w s t e in kept_by s t (w ∷ []) (word_past w s.left s.end t e) o.words o.end

-- a numeral

-- the number of a decline where a numeral from lo to hi may stand
data NumberNo (n : ℕ) (x : Option (List ℕ)) : Type 0 where
  unexpected : n ≡ 5 → ((w : List ℕ) → x ≡ Some w → is_bracket_text w ≡ false → ⊥) → NumberNo n x
  unread : n ≡ 6 → (w : List ℕ) → x ≡ Some w → is_bracket_text w ≡ false → value_of w ≡ None → NumberNo n x
  beyond : n ≡ 7 → (w : List ℕ) → (z : ℤ) → x ≡ Some w → value_of w ≡ Some z → NumberNo n x

module _ (lo hi : ℤ) where
  kind_no : (s : State) (w : Word) (b : Bool) (o : Option ℤ) (n p : ℕ) → is_bracket_text w.text ≡ b → value_of w.text ≡ o → number_at lo hi s w.place (cond b bracket (name_unless o)) ≡ no n p → NumberNo n (Some w.text) × (w.place ≡ p)
  kind_no s w true o n p b v e =
      let k = same_no 5 w.place n p e in
      (unexpected (sym k.number) (λ x h f. both_ways (is_bracket_text w.text) (ap is_bracket_text (same_Some w.text x h) ∙ f) b), k.place)
  kind_no s w false None n p b v e = let k = same_no 6 w.place n p e in (unread (sym k.number) w.text refl b v, k.place)
  kind_no s w false (Some z) n p b v e =
      ⊎_elim
      (λ (y : within lo hi z ≡ true). never n p z (past s) (sym e ∙ cond-true _ _ _ y))
      (λ (f : within lo hi z ≡ false). let k = same_no 7 w.place n p (sym (cond-false _ _ _ f) ∙ e) in (beyond (sym k.number) w.text z refl v, k.place))
      (cases_Bool (within lo hi z))

  number_no : (ws : List Word) (e n p : ℕ) → number lo hi (record { left = ws; end = e }) ≡ no n p → NumberNo n (front (texts ws)) × (place_in e ws ≡ p)
  unfolding number
  number_no [] e n p h = let k = same_no 5 e n p h in (unexpected (sym k.number) (λ w x b. none_some w x), k.place)
  number_no (x ∷ ws) e n p h = kind_no (record { left = x ∷ ws; end = e }) x (is_bracket_text x.text) (value_of x.text) n p refl refl h

  -- what some numeral in range begins with
  pub record StartsNumeral (ts : List (List ℕ)) : Type 0 where
    pub value : ℤ
    pub low : lo ≤ℤ value
    pub high : value ≤ℤ hi
    pub starts : Starts (signed_decimal value ∷ []) ts

  module _ (d : TenDigits lo hi) (o : lo ≤ℤ hi) where
    digits : (z : ℤ) → lo ≤ℤ z → z ≤ℤ hi → nat_abs z < 10 ^ 10
    digits z g h = let l = d.low in let u = d.high in omega (arith, ints)

    least : Numeral StartsNumeral []
    least =
        let r : lo ≤ℤ lo = omega (arith, ints) in
        record {
          text = signed_decimal lo;
          value = lo;
          says = value_decimal lo d.low;
          begins = record { value = lo; low = r; high = o; starts = record { rest = []; words = refl } };
        }

    numbered : (n : ℕ) (x : Option (List ℕ)) → NumberNo n x → Number (Numeral StartsNumeral []) n x
    numbered n x (unexpected e f) = other e
    numbered n x (unread e w h b v) = no_numeral e w h b v least
    numbered n x (beyond e w z h v) = no_range e w z h v least

    unlike_number : (s : State) (n p : ℕ) (z : ℤ) → number lo hi s ≡ no n p → lo ≤ℤ z → z ≤ℤ hi → NumberNo n (front (texts s.left)) → Like n (front (texts s.left)) (Some (signed_decimal z)) → ⊥
    unlike_number s n p z e g h k (same i) =
        let f = front_is (texts s.left) (signed_decimal z) i in
        never n p z (past s) (sym e ∙ (number_always lo hi s z f.0 (digits z g h) (within_from lo hi z g h) f.1).0)
    unlike_number s n p z e g h (unexpected i f) (numeral k x y v j l b c) = f x j b
    unlike_number s n p z e g h (unread i w f a c) (numeral k x y v j l b q) = let m : ◌≡◌ {A = ℕ} 5 6 = sym k ∙ i in absurd (omega arith)
    unlike_number s n p z e g h (beyond i w r f a) (numeral k x y v j l b q) = let m : ◌≡◌ {A = ℕ} 5 7 = sym k ∙ i in absurd (omega arith)

    pub number_parts : (s : State) (n p : ℕ) → number lo hi s ≡ no n p → Parts (number lo hi) StartsNumeral s n p
    number_parts s n p e =
        let k = number_no s.left s.end n p e in
        record {
          before = [];
          left = s.left;
          words = refl;
          place = k.1;
          number = numbered n (front (texts s.left)) k.0;
          early =
              let r : lo ≤ℤ lo = omega (arith, ints) in
              record { value = lo; low = r; high = o; starts = record { rest = signed_decimal lo ∷ []; words = refl } };
          late = λ t ts h l.
              declined_if (number lo hi t) (λ z u g.
              let i = number_only lo hi t u z g in
              let w = within_parts lo hi z i.range in
              unlike_number s n p z e w.0 w.1 k.0 (subst (λ us. Like n (front (texts s.left)) (front us)) (sym h ∙ i.passed.words) l));
        }

  kind_past : (ws : List Word) (e : ℕ) (w : Word) (k : Kind) (z : ℤ) (t : State) → number_at lo hi (record { left = w ∷ ws; end = e }) w.place k ≡ got z t → ws ≡ t.left
  kind_past ws e w bracket z t h = never 5 w.place z t h
  kind_past ws e w name z t h = never 6 w.place z t h
  kind_past ws e w (numeral_kind y) z t h =
      ⊎_elim
      (λ (b : within lo hi y ≡ true). ap (λ (u : State). u.left) (got_same y z (record { left = ws; end = e }) t (sym (cond-true _ _ _ b) ∙ h)).state)
      (λ (f : within lo hi y ≡ false). never 7 w.place z t (sym (cond-false _ _ _ f) ∙ h))
      (cases_Bool (within lo hi y))

  number_past : (ws : List Word) (e : ℕ) (z : ℤ) (t : State) → number lo hi (record { left = ws; end = e }) ≡ got z t → (f : List Word) × (ws ≡ f ++ t.left)
  unfolding number
  number_past [] e z t h = never 5 e z t h
  number_past (w ∷ ws) e z t h = (w ∷ [], ap (λ us. w ∷ us) (kind_past ws e w (kind_of_text w.text) z t h))

  pub number_kept : (s t : State) (z : ℤ) → number lo hi s ≡ got z t → Kept s t (signed_decimal z ∷ [])
  number_kept s t z e = let o = number_only lo hi s t z e in kept_by s t (signed_decimal z ∷ []) (number_past s.left s.end z t e) o.passed.words o.passed.end
