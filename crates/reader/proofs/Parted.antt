-- A line parts from all forms at one place alone.
use Rattle.std.proofs.Common.{◌≡◌, ℕ, List, [], ◌∷◌, ◌++◌, None, sym, refl, ap, ◌∙◌, subst, append_assoc, append-nil}
use Rattle.std.proofs.lemmas.Bool.{both_ways}
use Rattle.words.specs.Classes.{fault_of}
use Rattle.words.specs.Lines.{Word, texts}
use Rattle.words.specs.Numerals.{value_of}
use Rattle.words.specs.Grammar.{State, is_got, open_text}
use Rattle.words.specs.Shapes.{words_of}
use Rattle.words.proofs.Partings.{front, place_in, Like, same, numeral, Parts, texts_append}
use Rattle.words.proofs.Stops.{none_some}
use Rattle.reader.specs.declared.names.FormName.{FormName}
use Rattle.reader.specs.declared.names.FormName.TheVariants as name
use Rattle.reader.specs.Names.{name_of}
use Rattle.reader.specs.Forms.{shape_of, line_state}
use Rattle.reader.specs.LineLaws.{words_in}
use Rattle.reader.specs.LineDeclines.{NamesNone, IsForm, BeginsForm, MayFollow, place_of, PartsAt, NumeralMayFollow, NoBracketNext}
use Rattle.reader.proofs.LineStops.{line_words, line_read, begins_with_bracket}

-- words with these bytes
abbrev some_words : List (List ℕ) → List Word
some_words [] = []
some_words (t ∷ ts) = record { text = t; place = 0 } ∷ some_words ts

same_texts : (ts : List (List ℕ)) → texts (some_words ts) ≡ ts
same_texts [] = refl
same_texts (t ∷ ts) = ap (λ us. t ∷ us) (same_texts ts)

module _ (line : List ℕ) (n p : ℕ) (q : Parts line_words BeginsForm (line_state line) n p) where
  -- what is declined is no form's line
  no_form : (ts : List (List ℕ)) → Like n (front (texts q.left)) (front ts) → IsForm (texts q.before ++ ts) → ⊥
  no_form ts l f =
      let t : State = record { left = some_words (texts q.before ++ ts); end = 0 } in
      let e = same_texts (texts q.before ++ ts) in
      let r = line_read t f.form f.ranges (e ∙ sym f.words) in
      both_ways (is_got (line_words t)) (q.late t ts e l) (ap is_got r.1)

  none_after : (left : List Word) → q.left ≡ left → MayFollow (texts q.before) left → ⊥
  none_after [] e f = no_form [] (same (ap (λ ws. front (texts ws)) e)) (subst IsForm (sym (append-nil (texts q.before))) f)
  none_after (w ∷ ws) e f = no_form (w.text ∷ f.rest) (same (ap (λ us. front (texts us)) e)) (subst IsForm (append_assoc (texts q.before) (w.text ∷ []) f.rest) f.form)

  placed : (left : List Word) → place_in (line_state line).end left ≡ place_of line left
  placed [] = refl
  placed (w ∷ ws) = refl

  pub parted : fault_of line ≡ None → (words_in line ≡ [] → ⊥) → PartsAt line p q.before q.left
  parted b w = record {
    bytes = b;
    written = w;
    words = q.words;
    begins = q.early;
    parts = none_after q.left refl;
    place = sym q.place ∙ placed q.left;
  }

  no_numeral_after : (left : List Word) → q.left ≡ left → n ≡ 5 → NumeralMayFollow (texts q.before) → NoBracketNext left → ⊥
  no_numeral_after [] e h m b = b
  no_numeral_after (w ∷ ws) e h m b =
      no_form (m.text ∷ m.begins.rest) (numeral h w.text m.text m.value (ap (λ us. front (texts us)) e) refl b m.says)
      (subst IsForm (append_assoc (texts q.before) (m.text ∷ []) m.begins.rest) m.begins.form)

  pub unexpected_numeral : n ≡ 5 → NumeralMayFollow (texts q.before) → NoBracketNext q.left → ⊥
  unexpected_numeral = no_numeral_after q.left refl

-- two ways to cut one list: at one place, or one before the other
data Cut (b l c m : List Word) : Type 0 where
  here : b ≡ c → l ≡ m → Cut b l c m
  sooner : (w : Word) → (ws more : List Word) → l ≡ w ∷ ws → c ≡ b ++ (w ∷ more) → Cut b l c m
  past : (w : Word) → (ws more : List Word) → m ≡ w ∷ ws → b ≡ c ++ (w ∷ more) → Cut b l c m

cut_next : (x y : Word) (b l c m : List Word) → x ≡ y → Cut b l c m → Cut (x ∷ b) l (y ∷ c) m
cut_next x y b l c m e (here f g) = here (ap (λ w. w ∷ b) e ∙ ap (λ ws. y ∷ ws) f) g
cut_next x y b l c m e (sooner w ws more f g) = sooner w ws more f (ap (λ us. y ∷ us) g ∙ ap (λ z. z ∷ (b ++ (w ∷ more))) (sym e))
cut_next x y b l c m e (past w ws more f g) = past w ws more f (ap (λ us. x ∷ us) g ∙ ap (λ z. z ∷ (c ++ (w ∷ more))) e)

same_head : {A : Type 0} (x y : A) (xs ys : List A) → x ∷ xs ≡ y ∷ ys → (x ≡ y) × (xs ≡ ys)
same_head x y xs ys e = (cc, cc)

cut : (b l c m : List Word) → b ++ l ≡ c ++ m → Cut b l c m
cut [] l [] m e = here refl e
cut [] l (y ∷ c) m e = sooner y (c ++ m) c e refl
cut (x ∷ b) l [] m e = past x (b ++ l) b (sym e) refl
cut (x ∷ b) l (y ∷ c) m e = let h = same_head x y (b ++ l) (c ++ m) e in cut_next x y b l c m h.0 (cut b l c m h.1)

-- words that go on from those before as the line does begin no form
too_late : (b l c : List Word) (w : Word) (ws more : List Word) → l ≡ w ∷ ws → c ≡ b ++ (w ∷ more) → (MayFollow (texts b) l → ⊥) → BeginsForm (texts c) → ⊥
too_late b l c w ws more e f n g =
    let i : texts c ≡ texts b ++ (w.text ∷ []) ++ texts more = ap texts f ∙ texts_append b (w ∷ more) ∙ sym (append_assoc (texts b) (w.text ∷ []) (texts more)) in
    n (subst (MayFollow (texts b)) (sym e) (record {
      rest = texts more ++ g.rest;
      form = subst IsForm (ap (λ us. us ++ g.rest) i ∙ append_assoc (texts b ++ (w.text ∷ [])) (texts more) g.rest) g.form;
    }))

pub record OneCut (p q : ℕ) (b l c m : List Word) : Type 0 where
  pub before : b ≡ c
  pub left : l ≡ m
  pub place : p ≡ q

pub one_cut : (line : List ℕ) (p q : ℕ) (b l c m : List Word) → PartsAt line p b l → PartsAt line q c m → OneCut p q b l c m
one_cut line p q b l c m x y =
    elim (cut b l c m (sym x.words ∙ y.words)) [
      | here f g ↦ record { before = f; left = g; place = x.place ∙ ap (place_of line) g ∙ sym y.place }
      | sooner w ws more f g ↦ absurd (too_late b l c w ws more f g x.parts y.begins)
      | past w ws more f g ↦ absurd (too_late c m b w ws more f g y.parts x.begins)
    ]

-- a form's line parts from none
form_after : (b l : List Word) → IsForm (texts (b ++ l)) → MayFollow (texts b) l
form_after b [] f = subst IsForm (texts_append b [] ∙ append-nil (texts b)) f
form_after b (w ∷ ws) f = record { rest = texts ws; form = subst IsForm (texts_append b (w ∷ ws) ∙ sym (append_assoc (texts b) (w.text ∷ []) (texts ws))) f }

pub no_parting : (line : List ℕ) (p : ℕ) (b l : List Word) → PartsAt line p b l → IsForm (words_in line) → ⊥
no_parting line p b l x f = x.parts (form_after b l (subst IsForm (ap texts x.words) f))

-- a word that names no form parts from all of them

second_word : (ts : List (List ℕ)) (t : List ℕ) → BeginsForm (open_text ∷ t ∷ ts) → (k : FormName) × (t ≡ name_of k)
second_word ts t f =
    let l = f.form.form in
    (l.name, sym (same_head (name_of l.name) t (words_of (shape_of l.name) l.values) (ts ++ f.rest) (same_head open_text open_text _ _ f.form.words).1).0)

pub nameless_parts : (line : List ℕ) (p : ℕ) → (x : NamesNone line p) → PartsAt line p (x.bracket ∷ []) (x.word ∷ x.rest)
nameless_parts line p x = record {
  bytes = x.bytes;
  written = λ e. none_some x.bracket.text (ap front (sym e ∙ ap texts x.words));
  words = x.words;
  begins = begins_with_bracket (x.bracket.text ∷ []) [] (ap (λ t. t ∷ []) (sym x.opens));
  parts = λ f. let k = second_word [] x.word.text (subst (λ t. BeginsForm (t ∷ x.word.text ∷ [])) x.opens f) in x.nameless k.0 k.1;
  place = x.place;
}

name_no_numeral : (k : FormName) → value_of (name_of k) ≡ None
name_no_numeral name.Day = refl
name_no_numeral name.Steam = refl
name_no_numeral name.Ramp = refl
name_no_numeral name.Lake = refl
name_no_numeral name.Buyer = refl
name_no_numeral name.Out = refl
name_no_numeral name.Need = refl
name_no_numeral name.Price = refl
name_no_numeral name.Run = refl
name_no_numeral name.Mix = refl
name_no_numeral name.Supply = refl
name_no_numeral name.Show = refl
name_no_numeral name.Judge = refl

-- no numeral may stand for a form's name
pub no_numeral_named : (w : Word) → w.text ≡ open_text → NumeralMayFollow (texts (w ∷ [])) → ⊥
no_numeral_named w e m =
    let k = second_word [] m.text (subst (λ t. BeginsForm (t ∷ m.text ∷ [])) e m.begins) in
    none_some m.value (sym (name_no_numeral k.0) ∙ sym (ap value_of k.1) ∙ m.says)
