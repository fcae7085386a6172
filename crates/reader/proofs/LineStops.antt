-- Where a line's words part from all forms.
use Rattle.std.proofs.Common.{◌≡◌, ℕ, suc, Bool, true, false, List, [], ◌∷◌, ◌++◌, length, Some, None, Option, sym, refl, ap, ◌∙◌, subst, append_assoc, append-nil, arith}
use Rattle.std.proofs.lemmas.Option.{same_Some}
use Rattle.words.specs.Lines.{Word, texts}
use Rattle.words.specs.Grammar.{State, Reader, got, no, bind, give, past, is_got, word, end, open_text}
use Rattle.words.specs.Shapes.{read, words_of, Fits}
use Rattle.words.proofs.ReaderFacts.{never, got_same, join, word_always, end_only, end_always}
use Rattle.words.proofs.Partings.{front, place_in, other, Like, same, numeral, Parts, onward, later, Kept, texts_append}
use Rattle.words.proofs.Stops.{SameNo, same_no, declined_if, none_some, Starts, word_parts, word_kept, kept_by}
use Rattle.words.proofs.ShapeStops.{Begun, one, two, which, no_bind, no_after, shape_kept, parts}
use Rattle.reader.specs.declared.names.FormName.{FormName}
use Rattle.reader.specs.declared.names.FormName.TheVariants as name
use Rattle.reader.specs.Names.{name_of, named, name_at, read_name}
use Rattle.reader.specs.Forms.{Values, Line, shape_of, agrees, agreed, read_form, read_any}
use Rattle.reader.specs.LineLaws.{words_of_line}
use Rattle.reader.specs.LineDeclines.{BeginsForm}
use Rattle.reader.proofs.Soundness.{form_law, sound, clear}
use Rattle.reader.proofs.Exactly.{name_only, name_always}

-- a line as it is read, but for whether its numbers agree
abbrev pub form_words : FormName → Reader Line
form_words k s = bind (read (shape_of k) s) (λ v s₁. bind (end s₁) (λ _. give (record { name = k; values = v })))

abbrev pub line_words : Reader Line
line_words s = bind (word open_text s) (λ _ s₁. bind (read_name s₁) (λ k. form_words k))

-- why a line's words are declined
pub data Why (s : State) (n p : ℕ) : Type 0 where
  parting : Parts line_words BeginsForm s n p → Why s n p
  nameless : n ≡ 4 → (b w : Word) → (ws : List Word) → s.left ≡ b ∷ w ∷ ws → b.text ≡ open_text → named w.text ≡ None → w.place ≡ p → Why s n p
  disagreeing : n ≡ 8 → p ≡ 1 → (l : Line) → texts s.left ≡ words_of_line l → Fits (shape_of l.name) l.values → agrees l.name l.values ≡ false → Why s n p

-- the form of a judge, which begins as every form does
judge : Line
judge = record { name = name.Judge; values = tt }

pub begins_with_bracket : (ts rest : List (List ℕ)) → open_text ∷ [] ≡ ts ++ rest → BeginsForm ts
unfolding judge
begins_with_bracket ts rest e =
    let ws : List (List ℕ) = name_of name.Judge ∷ words_of (shape_of name.Judge) tt in
    record {
      rest = rest ++ ws;
      form = record { form = judge; ranges = tt; words = ap (λ us. us ++ ws) e ∙ append_assoc ts rest ws };
    }

begins_all : (l : Line) → Fits (shape_of l.name) l.values → (ws ts : List (List ℕ)) → words_of_line l ≡ ws → ts ≡ [] → BeginsForm (ws ++ ts)
begins_all l f ws ts e h = record {
  rest = [];
  form = record { form = l; ranges = f; words = e ∙ sym (append-nil ws) ∙ ap (λ us. ws ++ us) (sym h) ∙ sym (append-nil (ws ++ ts)) };
}

kept_then : (s u t : State) (ws vs : List (List ℕ)) → Kept s u ws → Kept u t vs → Kept s t (ws ++ vs)
kept_then s u t ws vs x y = record {
  front = x.front ++ y.front;
  words = x.words ∙ ap (λ us. x.front ++ us) y.words ∙ sym (append_assoc x.front y.front t.left);
  said = texts_append x.front y.front ∙ ap (λ us. us ++ texts y.front) x.said ∙ ap (λ us. ws ++ us) y.said;
  end = y.end ∙ x.end;
}

-- the end of the words

end_no : (ws : List Word) (e n p : ℕ) → end (record { left = ws; end = e }) ≡ no n p → SameNo 5 (place_in e ws) n p
unfolding end
end_no [] e n p h = never n p tt (record { left = []; end = e }) (sym h)
end_no (w ∷ ws) e n p h = same_no 5 w.place n p h

front_none : (ts : List (List ℕ)) → None ≡ front ts → ts ≡ []
front_none [] e = refl
front_none (t ∷ ts) e = none_some t e

end_parts : (s : State) (n p : ℕ) → end s ≡ no n p → Parts end (λ ts. ts ≡ []) s n p
end_parts s n p e =
    let k = end_no s.left s.end n p e in
    record {
      before = [];
      left = s.left;
      words = refl;
      place = k.place;
      number = other (sym k.number);
      early = refl;
      late = λ t ts h l.
          declined_if (end t) (λ a u g.
          elim (subst (λ us. Like n (front (texts s.left)) (front us)) (sym h ∙ (end_only t u g).0) l) [
            | same i ↦ never n p tt s (sym e ∙ end_always s (front_none (texts s.left) (sym i)))
            | numeral i w v z j m b c ↦ none_some v m
          ]);
    }

-- the name of a form

data NameNo (ws : List Word) (e n p : ℕ) : Type 0 where
  ended : ws ≡ [] → n ≡ 5 → e ≡ p → NameNo ws e n p
  unknown : (w : Word) → (vs : List Word) → ws ≡ w ∷ vs → named w.text ≡ None → n ≡ 4 → w.place ≡ p → NameNo ws e n p

name_no_by : (w : Word) (ws : List Word) (e n p : ℕ) (o : Option FormName) → named w.text ≡ o → name_at (record { left = w ∷ ws; end = e }) w.place o ≡ no n p → NameNo (w ∷ ws) e n p
name_no_by w ws e n p None h i = let k = same_no 4 w.place n p i in unknown w ws refl h (sym k.number) k.place
name_no_by w ws e n p (Some k) h i = never n p k (record { left = ws; end = e }) (sym i)

name_no : (ws : List Word) (e n p : ℕ) → read_name (record { left = ws; end = e }) ≡ no n p → NameNo ws e n p
unfolding read_name
name_no [] e n p h = let k = same_no 5 e n p h in ended refl (sym k.number) k.place
name_no (w ∷ ws) e n p h = name_no_by w ws e n p (named w.text) refl h

name_end_parts : (s : State) (n p : ℕ) → s.left ≡ [] → n ≡ 5 → s.end ≡ p → Parts read_name (λ ts. ts ≡ []) s n p
name_end_parts s n p h i j = record {
  before = [];
  left = [];
  words = h;
  place = j;
  number = other i;
  early = refl;
  late = λ t ts g l.
      declined_if (read_name t) (λ k u m.
      elim (subst (λ us. Like n None (front us)) (sym g ∙ (name_only t u k m).words) l) [
        | same o ↦ none_some (name_of k) o
        | numeral o w v z x y b c ↦ none_some w x
      ]);
}

name_past_by : (w : Word) (ws : List Word) (e : ℕ) (o : Option FormName) (k : FormName) (t : State) → name_at (record { left = w ∷ ws; end = e }) w.place o ≡ got k t → ws ≡ t.left
name_past_by w ws e None k t h = never 4 w.place k t h
name_past_by w ws e (Some j) k t h = ap (λ (u : State). u.left) (got_same j k (record { left = ws; end = e }) t h).state

name_past : (ws : List Word) (e : ℕ) (k : FormName) (t : State) → read_name (record { left = ws; end = e }) ≡ got k t → (f : List Word) × (ws ≡ f ++ t.left)
unfolding read_name
name_past [] e k t h = never 5 e k t h
name_past (w ∷ ws) e k t h = (w ∷ [], ap (λ us. w ∷ us) (name_past_by w ws e (named w.text) k t h))

name_kept : (s t : State) (k : FormName) → read_name s ≡ got k t → Kept s t (name_of k ∷ [])
name_kept s t k e = let o = name_only s t k e in kept_by s t (name_of k ∷ []) (name_past s.left s.end k t e) o.words o.end

one_word_front : (f : List Word) (t : List ℕ) → texts f ≡ t ∷ [] → (w : Word) × (f ≡ w ∷ []) × (w.text ≡ t)
one_word_front [] t e = none_some t (ap front e)
one_word_front (w ∷ []) t e = (w, refl, same_Some w.text t (ap front e))
one_word_front (w ∷ v ∷ ws) t e = let z : ◌≡◌ {A = ℕ} (suc (suc (length (texts ws)))) 1 = ap length e in absurd (omega arith)

-- the whole line

module _ (t : State) where
  open_declined : is_got (word open_text t) ≡ false → is_got (line_words t) ≡ false
  open_declined g = no_bind (word open_text t) (λ _ s₁. bind (read_name s₁) (λ k. form_words k)) g

  -- past the bracket, and past a form's name
  at_name : (ts : List (List ℕ)) → texts t.left ≡ open_text ∷ ts → (v : State) × (texts v.left ≡ ts) × (is_got (read_name v) ≡ false → is_got (line_words t) ≡ false)
  at_name ts e =
      let x = word_always open_text t ts e in (
        past t,
        x.1,
        λ d. no_after (word open_text t) (λ _ s₁. bind (read_name s₁) (λ k. form_words k)) tt (past t) x.0 (no_bind (read_name (past t)) (λ k. form_words k) d),
      )

  at_form : (k : FormName) (ts : List (List ℕ)) → texts t.left ≡ open_text ∷ name_of k ∷ ts → (v : State) × (texts v.left ≡ ts) × (is_got (form_words k v) ≡ false → is_got (line_words t) ≡ false)
  at_form k ts e =
      let x = word_always open_text t (name_of k ∷ ts) e in
      let y = name_always (past t) k ts x.1 in (
        past (past t),
        y.1,
        λ d. no_after (word open_text t) (λ _ s₁. bind (read_name s₁) (λ k. form_words k)) tt (past t) x.0
            (no_after (read_name (past t)) (λ k. form_words k) k (past (past t)) y.0 d),
      )

  -- a form's words are read
  pub line_read : (l : Line) → Fits (shape_of l.name) l.values → texts t.left ≡ words_of_line l → (u : State) × (line_words t ≡ got l u)
  line_read l f e =
      let k = l.name in
      let v = l.values in
      let x = word_always open_text t (name_of k ∷ words_of (shape_of k) v) e in
      let y = name_always (past t) k (words_of (shape_of k) v) x.1 in
      let u = past (past t) in
      let r = (form_law k).always u v [] f (y.1 ∙ sym (append-nil (words_of (shape_of k) v))) in (
        r.0,
        join (word open_text t) (λ _ s₁. bind (read_name s₁) (λ j. form_words j)) tt (past t) x.0
            ∙ join (read_name (past t)) (λ j. form_words j) k u y.0
            ∙ join (read (shape_of k) u) (λ a s₁. bind (end s₁) (λ _. give (record { name = k; values = a }))) v r.0 r.1
            ∙ join (end r.0) (λ _. give l) tt r.0 (end_always r.0 r.2),
      )

agreed_no : (b : Bool) (l : Line) (s : State) (n p : ℕ) → agreed b l s ≡ no n p → (b ≡ false) × SameNo 8 1 n p
agreed_no true l s n p e = never n p l s (sym e)
agreed_no false l s n p e = (refl, same_no 8 1 n p e)

module _ (s : State) (n p : ℕ) where
  why_name : (u : State) → word open_text s ≡ got tt u → NameNo u.left u.end n p → Why s n p
  why_name u i (ended h g j) =
      parting (later read_name line_words (λ ts. ts ≡ []) BeginsForm (open_text ∷ []) s u n p (word_kept open_text s u i) (name_end_parts u n p h g j)
      (λ ts e. begins_with_bracket ((open_text ∷ []) ++ ts) [] (ap (λ us. open_text ∷ us) (sym e) ∙ sym (append-nil (open_text ∷ ts))))
      (λ t ts e. at_name t ts e))
  why_name u i (unknown w vs h d g j) =
      let k = word_kept open_text s u i in
      let f = one_word_front k.front open_text k.said in
      nameless g f.0 w vs (k.words ∙ ap (λ us. k.front ++ us) h ∙ ap (λ us. us ++ (w ∷ vs)) f.1) f.2 d j

  module _ (k : FormName) (u : State) (w : Kept s u (open_text ∷ name_of k ∷ [])) where
    why_shape : read (shape_of k) u ≡ no n p → Why s n p
    why_shape e =
        parting (later (read (shape_of k)) line_words (Begun (shape_of k)) BeginsForm (open_text ∷ name_of k ∷ []) s u n p w (parts (shape_of k) (sound k) (clear k) u n p e)
        (λ ts b. record {
          rest = b.rest;
          form = record { form = record { name = k; values = b.value }; ranges = b.fits; words = ap (λ us. open_text ∷ name_of k ∷ us) b.words };
        })
        (λ t ts g.
        let x = at_form t k ts g in
        (x.0, x.1, λ d. x.2 (no_bind (read (shape_of k) x.0) (λ v s₁. bind (end s₁) (λ _. give (record { name = k; values = v }))) d))))

    why_end : (v : Values k) (z : State) → read (shape_of k) u ≡ got v z → end z ≡ no n p → Why s n p
    why_end v z h e =
        let l : Line = record { name = k; values = v } in
        let q = (form_law k).only u z v h in
        parting (later end line_words (λ ts. ts ≡ []) BeginsForm (words_of_line l) s z n p
        (kept_then s u z (open_text ∷ name_of k ∷ []) (words_of (shape_of k) v) w (shape_kept (shape_of k) (sound k) u z v h)) (end_parts z n p e)
        (λ ts g. begins_all l q.fits (words_of_line l) ts refl g)
        (λ t ts g.
        let x = at_form t k (words_of (shape_of k) v ++ ts) g in
        let y = (form_law k).always x.0 v ts q.fits x.1 in (
          y.0,
          y.2,
          λ d. x.2 (no_after (read (shape_of k) x.0) (λ a s₁. bind (end s₁) (λ _. give (record { name = k; values = a }))) v y.0 y.1
              (no_bind (end y.0) (λ _. give l) d)),
        )))

    why_agreed : (v : Values k) (z y : State) → read (shape_of k) u ≡ got v z → end z ≡ got tt y → agreed (agrees k v) (record { name = k; values = v }) y ≡ no n p → Why s n p
    why_agreed v z y h g e =
        let l : Line = record { name = k; values = v } in
        let q = (form_law k).only u z v h in
        let a = agreed_no (agrees k v) l y n p e in
        let m = q.words ∙ ap (λ us. words_of (shape_of k) v ++ us) (end_only z y g).0 ∙ append-nil (words_of (shape_of k) v) in
        disagreeing (sym a.1.number) (sym a.1.place) l
        (ap texts w.words ∙ texts_append w.front u.left ∙ ap (λ us. us ++ texts u.left) w.said ∙ ap (λ us. open_text ∷ name_of k ∷ us) m)
        q.fits a.0

  pub why : read_any s ≡ no n p → Why s n p
  why e =
      elim (which (word open_text s) (λ _ s₁. bind (read_name s₁) (λ k. read_form k)) n p e) [
        | one i ↦ parting (onward (word open_text) line_words (Starts (open_text ∷ [])) BeginsForm s n p (word_parts open_text refl s n p i)
            (λ ts b. begins_with_bracket ts b.rest b.words)
            (λ t _ g. open_declined t g))
        | two _ u i h ↦ elim (which (read_name u) (λ k. read_form k) n p h) [
          | one j ↦ why_name u i (name_no u.left u.end n p j)
          | two k v j g ↦ let w = kept_then s u v (open_text ∷ []) (name_of k ∷ []) (word_kept open_text s u i) (name_kept u v k j) in
              elim (which (read (shape_of k) v) (λ a s₁. bind (end s₁) (λ _. agreed (agrees k a) (record { name = k; values = a }))) n p g) [
                | one m ↦ why_shape k v w m
                | two a z m d ↦ elim (which (end z) (λ _. agreed (agrees k a) (record { name = k; values = a })) n p d) [
                  | one o ↦ why_end k v w a z m o
                  | two _ y o c ↦ why_agreed k v w a z y m o c
                ]
              ]
        ]
      ]
