-- Each number of a decline comes exactly where it should.
use Rattle.std.proofs.Common.{◌≡◌, ℕ, ◌+◌, ◌≤◌, Bool, true, false, cond, List, [], ◌∷◌, length, ℤ, Some, None, Option, Result, sym, refl, ap, ◌∙◌, subst, ⊎_elim, arith}
use Rattle.std.specs.Prelude.{nat_lt, position}
use Rattle.std.proofs.lemmas.Bool.{cond-true, cond-false, cases_Bool, both_ways, lt-ltb, le-ltb, ltb-true, ltb-false}
use Rattle.std.proofs.lemmas.Option.{same_Some}
use Rattle.terms.specs.declared.decline.Decline.{Decline}
use Rattle.words.specs.Classes.{is_foreign, foreign_at, fault_of}
use Rattle.words.specs.Lines.{Word, texts}
use Rattle.words.specs.Numerals.{value_of}
use Rattle.words.specs.Grammar.{State, Answer, got, no, bind, head, tail, past, word, ends, is_bracket_text, open_text}
use Rattle.words.proofs.ReaderFacts.{join, word_always, ends_only, ends_always}
use Rattle.words.proofs.Decimals.{value_no_bracket}
use Rattle.words.proofs.Partings.{front, other, no_numeral, no_range, Parts}
use Rattle.words.proofs.Stops.{none_some}
use Rattle.reader.specs.declared.names.FormName.{FormName}
use Rattle.reader.specs.declared.form.Form.{Form}
use Rattle.reader.specs.Names.{name_of, named, name_at, name_in, read_name}
use Rattle.reader.specs.Forms.{Line, read_form, read_any, blank, declined, told, told_by, line_state, line_told, told_of}
use Rattle.reader.specs.LineLaws.{words_in}
use Rattle.reader.specs.LineDeclines.{IsTooLong, IsForeign, NamesNone, Disagrees, BeginsForm, PartsAt, NumeralMayFollow, NoBracketNext, IsUnexpected, IsNoNumeral, IsOutOfRange, DeclinesExactly}
use Rattle.reader.proofs.Exactly.{any_only, any_read, named_only, named_always}
use Rattle.reader.proofs.LineStops.{Why, parting, nameless, disagreeing, why, line_words}
use Rattle.reader.proofs.Parted.{parted, unexpected_numeral, one_cut, no_parting, nameless_parts, no_numeral_named}

-- two declines that are one
record One (n p m q : ℕ) : Type 0 where
  number : n ≡ m
  place : p ≡ q

one_decline : (n p m q : ℕ) → declined n p ≡ declined m q → One n p m q
one_decline n p m q e = record { number = cc; place = cc }

-- bytes

long_fault : (line : List ℕ) (p : ℕ) → IsTooLong line p → fault_of line ≡ Some (2, p)
long_fault line p x = cond-true _ _ _ (lt-ltb _ _ x.long) ∙ ap (λ q. Some (2, q)) (sym x.place)

foreign_fault : (line : List ℕ) (p : ℕ) → IsForeign line p → fault_of line ≡ Some (3, p)
foreign_fault line p x = cond-false _ _ _ (le-ltb _ _ x.short) ∙ ap foreign_at x.first ∙ ap (λ q. Some (3, q)) (sym x.place)

data Fault (line : List ℕ) (f : ℕ × ℕ) : Type 0 where
  long : f.0 ≡ 2 → IsTooLong line f.1 → Fault line f
  foreign : f.0 ≡ 3 → IsForeign line f.1 → Fault line f

foreign_by : (line : List ℕ) (o : Option ℕ) (f : ℕ × ℕ) → length line ≤ 1024 → position is_foreign line ≡ o → foreign_at o ≡ Some f → Fault line f
foreign_by line None f h i e = none_some f e
foreign_by line (Some at) f h i e =
    let g : (3, at + 1) ≡ f = same_Some (3, at + 1) f e in
    foreign (ap (λ x. x.0) (sym g)) (record { short = h; at = at; first = i; place = ap (λ x. x.1) (sym g) })

fault : (line : List ℕ) (f : ℕ × ℕ) → fault_of line ≡ Some f → Fault line f
fault line f e =
    ⊎_elim
    (λ (y : nat_lt 1024 (length line) ≡ true).
    let g : (2, 1025) ≡ f = same_Some (2, 1025) f (sym (cond-true _ _ _ y) ∙ e) in
    long (ap (λ x. x.0) (sym g)) (record { long = ltb-true _ _ y; place = ap (λ x. x.1) (sym g) }))
    (λ (n : nat_lt 1024 (length line) ≡ false). foreign_by line (position is_foreign line) f (ltb-false _ _ n) refl (sym (cond-false _ _ _ n) ∙ e))
    (cases_Bool (nat_lt 1024 (length line)))

-- words

-- what stands next
abbrev NoNumeralNext : List Word → Type 0
NoNumeralNext [] = ⊥
NoNumeralNext (w ∷ ws) = value_of w.text ≡ None

abbrev NumeralNext : List Word → Type 0
NumeralNext [] = ⊥
NumeralNext (w ∷ ws) = (z : ℤ) × (value_of w.text ≡ Some z)

-- the number of a decline where a line parts from all forms
data Numbered (line : List ℕ) (n p : ℕ) (b l : List Word) : Type 0 where
  unnamed : n ≡ 4 → NamesNone line p → Numbered line n p b l
  unexpected : n ≡ 5 → (NamesNone line p → ⊥) → (NumeralMayFollow (texts b) → NoBracketNext l → ⊥) → Numbered line n p b l
  unread : n ≡ 6 → NumeralMayFollow (texts b) → NoBracketNext l → NoNumeralNext l → Numbered line n p b l
  beyond : n ≡ 7 → NumeralMayFollow (texts b) → NumeralNext l → Numbered line n p b l

data Reason (line : List ℕ) (n p : ℕ) : Type 0 where
  bytes : Fault line (n, p) → Reason line n p
  apart : (b l : List Word) → PartsAt line p b l → Numbered line n p b l → Reason line n p
  disagree : n ≡ 8 → Disagrees line p → Reason line n p

name_none : (t : List ℕ) → named t ≡ None → (k : FormName) → t ≡ name_of k → ⊥
name_none t e k h = none_some k (sym e ∙ ap named h ∙ named_always k)

-- what is next, by its text
no_bracket_next : (l : List Word) (w : List ℕ) → front (texts l) ≡ Some w → is_bracket_text w ≡ false → NoBracketNext l
no_bracket_next [] w e h = none_some w e
no_bracket_next (x ∷ xs) w e h = ap is_bracket_text (same_Some x.text w e) ∙ h

no_numeral_next : (l : List Word) (w : List ℕ) → front (texts l) ≡ Some w → value_of w ≡ None → NoNumeralNext l
no_numeral_next [] w e h = none_some w e
no_numeral_next (x ∷ xs) w e h = ap value_of (same_Some x.text w e) ∙ h

numeral_next : (l : List Word) (w : List ℕ) (z : ℤ) → front (texts l) ≡ Some w → value_of w ≡ Some z → NumeralNext l
numeral_next [] w z e h = none_some w e
numeral_next (x ∷ xs) w z e h = (z, ap value_of (same_Some x.text w e) ∙ h)

numeral_no_bracket : (l : List Word) → NumeralNext l → NoBracketNext l
numeral_no_bracket [] h = h
numeral_no_bracket (x ∷ xs) h = value_no_bracket x.text h.0 h.1

numeral_or_none : (l : List Word) → NumeralNext l → NoNumeralNext l → ⊥
numeral_or_none [] h e = h
numeral_or_none (x ∷ xs) h e = none_some h.0 (sym e ∙ h.1)

-- a line that is declined, by its words

name_unknown : (t : List ℕ) (o : Option FormName) → named t ≡ o → ((k : FormName) → t ≡ name_of k → ⊥) → named t ≡ None
name_unknown t None e f = e
name_unknown t (Some k) e f = absurd (f k (named_only t k e))

nameless_read : (s : State) (x w : Word) (ws : List Word) → s.left ≡ x ∷ w ∷ ws → x.text ≡ open_text → named w.text ≡ None → read_any s ≡ no 4 w.place
unfolding read_name
nameless_read s x w ws e o h =
    let i = word_always open_text s (w.text ∷ texts ws) (ap texts e ∙ ap (λ t. t ∷ w.text ∷ texts ws) o) in
    join (word open_text s) (λ _ s₁. bind (read_name s₁) (λ k. read_form k)) tt (past s) i.0
    ∙ ap (λ a. bind a (λ k. read_form k)) (ap (λ us. name_in (past s) (head (tail us))) e ∙ ap (name_at (past s) w.place) h)

module _ (line : List ℕ) where
  -- a line with words, and no foreign byte, is told by its words
  by_words : fault_of line ≡ None → (words_in line ≡ [] → ⊥) → line_told line ≡ told (read_any (line_state line))
  by_words b w =
      ap (λ o. told_by o (line_state line)) b
      ∙ ⊎_elim
      (λ (y : ends (line_state line) ≡ true). absurd (w (ends_only (line_state line) y)))
      (λ (f : ends (line_state line) ≡ false). cond-false _ _ _ f)
      (cases_Bool (ends (line_state line)))

  nameless_told : (p : ℕ) → NamesNone line p → line_told line ≡ declined 4 p
  nameless_told p x =
      by_words x.bytes (nameless_parts line p x).written
      ∙ ap told (nameless_read (line_state line) x.bracket x.word x.rest x.words x.opens (name_unknown x.word.text (named x.word.text) refl x.nameless))
      ∙ ap (declined 4) (sym x.place)

  disagrees_told : (p : ℕ) → Disagrees line p → line_told line ≡ declined 8 p
  disagrees_told p x =
      let l = x.form in
      let r = any_read (line_state line) l x.words x.ranges in
      by_words x.bytes (λ e. none_some open_text (ap front (sym e ∙ x.words))) ∙ ap told (r.1 ∙ cond-false _ _ _ x.disagreement) ∙ ap (declined 8) (sym x.place)

  module _ (n p : ℕ) (b : fault_of line ≡ None) (w : words_in line ≡ [] → ⊥) (e : read_any (line_state line) ≡ no n p) where
    here : line_told line ≡ declined n p
    here = by_words b w ∙ ap told e

    numbered : (q : Parts line_words BeginsForm (line_state line) n p) → Numbered line n p q.before q.left
    numbered q =
        elim q.number [
          | other g ↦ unexpected g (λ x. let k = one_decline n p 4 p (sym here ∙ nameless_told p x) in let i = k.number in absurd (omega arith)) (unexpected_numeral line n p q g)
          | no_numeral g t h k v m ↦ unread g (record { text = m.text; value = m.value; says = m.says; begins = m.begins }) (no_bracket_next q.left t h k) (no_numeral_next q.left t h v)
          | no_range g t z h v m ↦ beyond g (record { text = m.text; value = m.value; says = m.says; begins = m.begins }) (numeral_next q.left t z h v)
        ]

    by_why : Why (line_state line) n p → Reason line n p
    by_why (parting q) = apart q.before q.left (parted line n p q b w) (numbered q)
    by_why (nameless g v x ws h o d i) =
        let r : NamesNone line p = record { bytes = b; bracket = v; word = x; rest = ws; words = h; opens = o; nameless = name_none x.text d; place = sym i } in
        apart (v ∷ []) (x ∷ ws) (nameless_parts line p r) (unnamed g r)
    by_why (disagreeing g h l i f d) = disagree g (record { bytes = b; form = l; words = i; ranges = f; disagreement = d; place = h })

  no_is : (a : Answer Line) (n p : ℕ) → told a ≡ declined n p → a ≡ no n p
  no_is (got l t) n p e = cc
  no_is (no m q) n p e = let k = one_decline m q n p e in ap (λ i. no i q) k.number ∙ ap (no n) k.place

  by_ends : (n p : ℕ) (c : Bool) → fault_of line ≡ None → ends (line_state line) ≡ c → cond c blank (told (read_any (line_state line))) ≡ declined n p → Reason line n p
  by_ends n p true b h e = cc
  by_ends n p false b h e =
      let i = no_is (read_any (line_state line)) n p e in
      by_why n p b (λ k. both_ways (ends (line_state line)) h (ends_always (line_state line) k)) i (why (line_state line) n p i)

  by_fault : (n p : ℕ) (o : Option (ℕ × ℕ)) → fault_of line ≡ o → told_by o (line_state line) ≡ declined n p → Reason line n p
  by_fault n p (Some f) h e =
      let k = one_decline f.0 f.1 n p e in
      bytes (fault line (n, p) (h ∙ ap (λ m. Some (m, f.1)) k.number ∙ ap (λ q. Some (n, q)) k.place))
  by_fault n p None h e = by_ends n p (ends (line_state line)) h refl e

  reason : (n p : ℕ) → line_told line ≡ declined n p → Reason line n p
  reason n p e = by_fault n p (fault_of line) refl e

  -- a line that parts from all forms is declined there

  record Stopped (p : ℕ) (b l : List Word) : Type 0 where
    number : ℕ
    told : line_told line ≡ declined number p
    why : Numbered line number p b l

  no_fault : {P : Type 0} (f : ℕ × ℕ) → fault_of line ≡ None → Fault line f → P
  no_fault f b (long e x) = none_some (2, f.1) (sym b ∙ long_fault line f.1 x)
  no_fault f b (foreign e x) = none_some (3, f.1) (sym b ∙ foreign_fault line f.1 x)

  module _ (p : ℕ) (b l : List Word) (x : PartsAt line p b l) where
    stopped_by : (n q : ℕ) → line_told line ≡ declined n q → Reason line n q → Stopped p b l
    stopped_by n q e (bytes f) = no_fault (n, q) x.bytes f
    stopped_by n q e (apart c m y w) =
        let k = one_cut line p q b l c m x y in
        record {
          number = n;
          told = e ∙ ap (declined n) (sym k.place);
          why = subst (λ r. Numbered line n r b l) (sym k.place) (subst (λ i. Numbered line n q i l) (sym k.before) (subst (λ j. Numbered line n q c j) (sym k.left) w));
        }
    stopped_by n q e (disagree g y) = absurd (no_parting line p b l x (record { form = y.form; ranges = y.ranges; words = sym y.words }))

    stopped_at : (a : Answer Line) → read_any (line_state line) ≡ a → Stopped p b l
    stopped_at (got m t) e = let w = any_only (line_state line) t m e in absurd (no_parting line p b l x (record { form = m; ranges = w.ranges; words = sym w.words }))
    stopped_at (no n q) e = let h = by_words x.bytes x.written ∙ ap told e in stopped_by n q h (reason n q h)

    stopped : Stopped p b l
    stopped = stopped_at (read_any (line_state line)) refl

  module _ (p : ℕ) where
    is_long : Reason line 2 p → IsTooLong line p
    is_long (bytes (long e x)) = x
    is_long (bytes (foreign e x)) = absurd (omega arith)
    is_long (apart b l x (unnamed e y)) = absurd (omega arith)
    is_long (apart b l x (unexpected e f g)) = absurd (omega arith)
    is_long (apart b l x (unread e m h v)) = absurd (omega arith)
    is_long (apart b l x (beyond e m h)) = absurd (omega arith)
    is_long (disagree e x) = absurd (omega arith)

    is_foreign_at : Reason line 3 p → IsForeign line p
    is_foreign_at (bytes (long e x)) = absurd (omega arith)
    is_foreign_at (bytes (foreign e x)) = x
    is_foreign_at (apart b l x (unnamed e y)) = absurd (omega arith)
    is_foreign_at (apart b l x (unexpected e f g)) = absurd (omega arith)
    is_foreign_at (apart b l x (unread e m h v)) = absurd (omega arith)
    is_foreign_at (apart b l x (beyond e m h)) = absurd (omega arith)
    is_foreign_at (disagree e x) = absurd (omega arith)

    is_nameless : Reason line 4 p → NamesNone line p
    is_nameless (bytes (long e x)) = absurd (omega arith)
    is_nameless (bytes (foreign e x)) = absurd (omega arith)
    is_nameless (apart b l x (unnamed e y)) = y
    is_nameless (apart b l x (unexpected e f g)) = absurd (omega arith)
    is_nameless (apart b l x (unread e m h v)) = absurd (omega arith)
    is_nameless (apart b l x (beyond e m h)) = absurd (omega arith)
    is_nameless (disagree e x) = absurd (omega arith)

    is_unexpected : Reason line 5 p → IsUnexpected line p
    is_unexpected (bytes (long e x)) = absurd (omega arith)
    is_unexpected (bytes (foreign e x)) = absurd (omega arith)
    is_unexpected (apart b l x (unnamed e y)) = absurd (omega arith)
    is_unexpected (apart b l x (unexpected e f g)) = record { before = b; left = l; at = x; named = f; numeral = g }
    is_unexpected (apart b l x (unread e m h v)) = absurd (omega arith)
    is_unexpected (apart b l x (beyond e m h)) = absurd (omega arith)
    is_unexpected (disagree e x) = absurd (omega arith)

    is_unread : Reason line 6 p → IsNoNumeral line p
    is_unread (bytes (long e x)) = absurd (omega arith)
    is_unread (bytes (foreign e x)) = absurd (omega arith)
    is_unread (apart b l x (unnamed e y)) = absurd (omega arith)
    is_unread (apart b l x (unexpected e f g)) = absurd (omega arith)
    is_unread (apart b [] x (unread e m h v)) = absurd h
    is_unread (apart b (w ∷ ws) x (unread e m h v)) = record { before = b; word = w; rest = ws; at = x; numeral = m; bracket = h; none = v }
    is_unread (apart b l x (beyond e m h)) = absurd (omega arith)
    is_unread (disagree e x) = absurd (omega arith)

    is_beyond : Reason line 7 p → IsOutOfRange line p
    is_beyond (bytes (long e x)) = absurd (omega arith)
    is_beyond (bytes (foreign e x)) = absurd (omega arith)
    is_beyond (apart b l x (unnamed e y)) = absurd (omega arith)
    is_beyond (apart b l x (unexpected e f g)) = absurd (omega arith)
    is_beyond (apart b l x (unread e m h v)) = absurd (omega arith)
    is_beyond (apart b [] x (beyond e m h)) = absurd h
    is_beyond (apart b (w ∷ ws) x (beyond e m h)) = record { before = b; word = w; rest = ws; at = x; numeral = m; value = h.0; says = h.1 }
    is_beyond (disagree e x) = absurd (omega arith)

    is_disagreeing : Reason line 8 p → Disagrees line p
    is_disagreeing (bytes (long e x)) = absurd (omega arith)
    is_disagreeing (bytes (foreign e x)) = absurd (omega arith)
    is_disagreeing (apart b l x (unnamed e y)) = absurd (omega arith)
    is_disagreeing (apart b l x (unexpected e f g)) = absurd (omega arith)
    is_disagreeing (apart b l x (unread e m h v)) = absurd (omega arith)
    is_disagreeing (apart b l x (beyond e m h)) = absurd (omega arith)
    is_disagreeing (disagree e x) = x

    ranged : (n : ℕ) → Reason line n p → (2 ≤ n) × (n ≤ 8)
    ranged n (bytes (long e x)) = (omega arith, omega arith)
    ranged n (bytes (foreign e x)) = (omega arith, omega arith)
    ranged n (apart b l x (unnamed e y)) = (omega arith, omega arith)
    ranged n (apart b l x (unexpected e f g)) = (omega arith, omega arith)
    ranged n (apart b l x (unread e m h v)) = (omega arith, omega arith)
    ranged n (apart b l x (beyond e m h)) = (omega arith, omega arith)
    ranged n (disagree e x) = (omega arith, omega arith)

    -- no numeral may stand in the place of a form's name
    numeral_named : {P : Type 0} (b l : List Word) → PartsAt line p b l → NumeralMayFollow (texts b) → NamesNone line p → P
    numeral_named b l x m y =
        let k = one_cut line p p b l (y.bracket ∷ []) (y.word ∷ y.rest) x (nameless_parts line p y) in
        absurd (no_numeral_named y.bracket y.opens (subst (λ c. NumeralMayFollow (texts c)) k.before m))

    unexpected_told : IsUnexpected line p → line_told line ≡ declined 5 p
    unexpected_told x =
        let s = stopped p x.before x.left x.at in
        elim s.why [
          | unnamed e y ↦ absurd (x.named y)
          | unexpected e f g ↦ s.told ∙ ap (λ n. declined n p) e
          | unread e m h v ↦ absurd (x.numeral m h)
          | beyond e m h ↦ absurd (x.numeral m (numeral_no_bracket x.left h))
        ]

    unread_told : IsNoNumeral line p → line_told line ≡ declined 6 p
    unread_told x =
        let s = stopped p x.before (x.word ∷ x.rest) x.at in
        elim s.why [
          | unnamed e y ↦ numeral_named x.before (x.word ∷ x.rest) x.at x.numeral y
          | unexpected e f g ↦ absurd (g x.numeral x.bracket)
          | unread e m h v ↦ s.told ∙ ap (λ n. declined n p) e
          | beyond e m h ↦ absurd (numeral_or_none (x.word ∷ x.rest) h x.none)
        ]

    beyond_told : IsOutOfRange line p → line_told line ≡ declined 7 p
    beyond_told x =
        let s = stopped p x.before (x.word ∷ x.rest) x.at in
        elim s.why [
          | unnamed e y ↦ numeral_named x.before (x.word ∷ x.rest) x.at x.numeral y
          | unexpected e f g ↦ absurd (g x.numeral (numeral_no_bracket (x.word ∷ x.rest) (x.value, x.says)))
          | unread e m h v ↦ absurd (numeral_or_none (x.word ∷ x.rest) (x.value, x.says) v)
          | beyond e m h ↦ s.told ∙ ap (λ n. declined n p) e
        ]

pub declines : (line : List ℕ) (r : Result (Option Form) Decline) → told_of r ≡ line_told line → DeclinesExactly line r
declines line r e =
    let s = line_state line in
    record {
      long = λ p. (λ h. is_long line p (reason line 2 p (sym e ∙ h)), λ x. e ∙ ap (λ o. told_by o s) (long_fault line p x));
      foreign = λ p. (λ h. is_foreign_at line p (reason line 3 p (sym e ∙ h)), λ x. e ∙ ap (λ o. told_by o s) (foreign_fault line p x));
      names_none = λ p. (λ h. is_nameless line p (reason line 4 p (sym e ∙ h)), λ x. e ∙ nameless_told line p x);
      unexpected = λ p. (λ h. is_unexpected line p (reason line 5 p (sym e ∙ h)), λ x. e ∙ unexpected_told line p x);
      no_numeral = λ p. (λ h. is_unread line p (reason line 6 p (sym e ∙ h)), λ x. e ∙ unread_told line p x);
      out_of_range = λ p. (λ h. is_beyond line p (reason line 7 p (sym e ∙ h)), λ x. e ∙ beyond_told line p x);
      disagrees = λ p. (λ h. is_disagreeing line p (reason line 8 p (sym e ∙ h)), λ x. e ∙ disagrees_told line p x);
      numbers = λ n p h. ranged line p n (reason line n p (sym e ∙ h));
    }
