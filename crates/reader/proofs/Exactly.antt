-- A line is read to a form exactly when its words are the words of that form.
use Rattle.std.proofs.Common.{◌≡◌, ℕ, Bool, true, false, cond, List, [], ◌∷◌, ◌++◌, Some, None, Option, Result, codes, sym, refl, ap, ◌∙◌, subst, ⊎_elim, append-nil, arith}
use Rattle.std.proofs.lemmas.Bool.{cond-true, cond-false, cases_Bool}
use Rattle.std.proofs.lemmas.Option.{same_Some}
use Rattle.terms.specs.declared.decline.Decline.{Decline}
use Rattle.words.specs.Classes.{fault_of}
use Rattle.words.specs.Lines.{Word, texts}
use Rattle.words.specs.Grammar.{State, Answer, got, no, bind, first, past, word, end, ends, open_text}
use Rattle.words.specs.Shapes.{read, words_of, Fits}
use Rattle.words.proofs.ReaderFacts.{never, got_same, chain, join, bytes_same, Passed, passes, standing, word_only, word_always, end_only, end_always, ends_only, ends_always}
use Rattle.reader.specs.declared.names.FormName.{FormName}
use Rattle.reader.specs.declared.names.FormName.TheVariants as name
use Rattle.reader.specs.declared.form.Form.{Form}
use Rattle.reader.specs.Names.{name_of, same, named, name_at, name_in, read_name}
use Rattle.reader.specs.Forms.{Values, Line, shape_of, agrees, agreed, read_form, read_any, blank, says, told, told_by, line_state, line_told, told_of}
use Rattle.reader.specs.LineLaws.{words_of_line, IsLineOf, IsBlank, ReadsExactly}
use Rattle.reader.proofs.Soundness.{form_law}

-- names

pick : (t w : List ℕ) (j k : FormName) (rest : Option FormName) → name_of j ≡ w → cond (same t w) (Some j) rest ≡ Some k → (rest ≡ Some k → t ≡ name_of k) → t ≡ name_of k
pick t w j k rest n e next =
    ⊎_elim
    (λ (y : same t w ≡ true). bytes_same t w y ∙ sym n ∙ ap name_of (same_Some j k (sym (cond-true _ _ _ y) ∙ e)))
    (λ (f : same t w ≡ false). next (sym (cond-false _ _ _ f) ∙ e))
    (cases_Bool (same t w))

pub named_only : (t : List ℕ) (k : FormName) → named t ≡ Some k → t ≡ name_of k
unfolding named
named_only t k e =
    pick t (codes "day") name.Day k _ refl e (λ e.
    pick t (codes "steam") name.Steam k _ refl e (λ e.
    pick t (codes "ramp") name.Ramp k _ refl e (λ e.
    pick t (codes "lake") name.Lake k _ refl e (λ e.
    pick t (codes "buyer") name.Buyer k _ refl e (λ e.
    pick t (codes "out") name.Out k _ refl e (λ e.
    pick t (codes "need") name.Need k _ refl e (λ e.
    pick t (codes "price") name.Price k _ refl e (λ e.
    pick t (codes "run") name.Run k _ refl e (λ e.
    pick t (codes "mix") name.Mix k _ refl e (λ e.
    pick t (codes "supply") name.Supply k _ refl e (λ e.
    pick t (codes "show") name.Show k _ refl e (λ e.
    pick t (codes "judge") name.Judge k _ refl e (λ e.
    let z : ◌≡◌ {A = ℕ} 0 1 = cc in absurd (omega arith))))))))))))))

pub named_always : (k : FormName) → named (name_of k) ≡ Some k
unfolding named
named_always name.Day = refl
named_always name.Steam = refl
named_always name.Ramp = refl
named_always name.Lake = refl
named_always name.Buyer = refl
named_always name.Out = refl
named_always name.Need = refl
named_always name.Price = refl
named_always name.Run = refl
named_always name.Mix = refl
named_always name.Supply = refl
named_always name.Show = refl
named_always name.Judge = refl

name_by : (s t : State) (x : Word) (k : FormName) (o : Option FormName) → first s ≡ Some x → named x.text ≡ o → name_at s x.place o ≡ got k t → Passed s t (name_of k)
name_by s t x k None h n e = never 4 x.place k t e
name_by s t x k (Some j) h n e =
    let g = got_same j k (past s) t e in
    let d : x.text ≡ name_of k = named_only x.text k (n ∙ ap Some g.value) in
    subst (λ u. Passed s u (name_of k)) g.state (subst (Passed s (past s)) d (passes s x h))

name_of_word : (s t : State) (k : FormName) (o : Option Word) → first s ≡ o → name_in s o ≡ got k t → Passed s t (name_of k)
name_of_word s t k None h e = never 5 s.end k t e
name_of_word s t k (Some x) h e = name_by s t x k (named x.text) h refl e

pub name_only : (s t : State) (k : FormName) → read_name s ≡ got k t → Passed s t (name_of k)
unfolding read_name
name_only s t k e = name_of_word s t k (first s) refl e

pub name_always : (s : State) (k : FormName) (ts : List (List ℕ)) → texts s.left ≡ name_of k ∷ ts → (read_name s ≡ got k (past s)) × (texts (past s).left ≡ ts)
unfolding read_name
name_always s k ts h =
    let x = standing s (name_of k) ts h in
    (ap (name_in s) x.next ∙ ap (name_at s x.word.place) (ap named x.text ∙ named_always k), x.rest)

-- forms

-- what is read of a line's words is there
pub record Whole (s : State) (l : Line) : Type 0 where
  pub words : texts s.left ≡ words_of_line l
  pub ranges : Fits (shape_of l.name) l.values
  pub agreement : agrees l.name l.values ≡ true

agreed_only : (b : Bool) (l m : Line) (s t : State) → agreed b l s ≡ got m t → (b ≡ true) × (l ≡ m)
agreed_only true l m s t e = (refl, (got_same l m s t e).value)
agreed_only false l m s t e = never 8 1 m t e

form_only : (k : FormName) (s t : State) (l : Line) → read_form k s ≡ got l t → (v : Values k) × (record { name = k; values = v } ≡ l) × (texts s.left ≡ words_of (shape_of k) v) × Fits (shape_of k) v × (agrees k v ≡ true)
form_only k s t l e =
    let c = chain (read (shape_of k) s) (λ v s₁. bind (end s₁) (λ _. agreed (agrees k v) (record { name = k; values = v }))) l t e in
    let m : Line = record { name = k; values = c.value } in
    let d = chain (end c.state) (λ _. agreed (agrees k c.value) m) l t c.next in
    let a = agreed_only (agrees k c.value) m l d.state t d.next in
    let o = (form_law k).only s c.state c.value c.this in
    let z = (end_only c.state d.state d.this).0 in
    (c.value, a.1, o.words ∙ ap (λ ws. words_of (shape_of k) c.value ++ ws) z ∙ append-nil (words_of (shape_of k) c.value), o.fits, a.0)

pub any_only : (s t : State) (l : Line) → read_any s ≡ got l t → Whole s l
any_only s t l e =
    let c = chain (word open_text s) (λ _ s₁. bind (read_name s₁) (λ k. read_form k)) l t e in
    let d = chain (read_name c.state) (λ k. read_form k) l t c.next in
    let f = form_only d.value d.state t l d.next in
    let w = word_only open_text s c.state c.this in
    let n = name_only c.state d.state d.value d.this in
    subst (Whole s) f.1 (record {
      words = w.words ∙ ap (λ ws. open_text ∷ ws) n.words ∙ ap (λ ws. open_text ∷ name_of d.value ∷ ws) f.2;
      ranges = f.3;
      agreement = f.4;
    })

-- what stands there is read, and its numbers are held against each other
pub any_read : (s : State) (l : Line) → texts s.left ≡ words_of_line l → Fits (shape_of l.name) l.values → (t : State) × (read_any s ≡ agreed (agrees l.name l.values) l t)
any_read s l e f =
    let k = l.name in
    let v = l.values in
    let o = word_always open_text s (name_of k ∷ words_of (shape_of k) v) e in
    let n = name_always (past s) k (words_of (shape_of k) v) o.1 in
    let u = past (past s) in
    let r = (form_law k).always u v [] f (n.1 ∙ sym (append-nil (words_of (shape_of k) v))) in (
      r.0,
      join (word open_text s) (λ _ s₁. bind (read_name s₁) (λ j. read_form j)) tt (past s) o.0
          ∙ join (read_name (past s)) (λ j. read_form j) k u n.0
          ∙ join (read (shape_of k) u) (λ a s₁. bind (end s₁) (λ _. agreed (agrees k a) (record { name = k; values = a }))) v r.0 r.1
          ∙ join (end r.0) (λ _. agreed (agrees k v) l) tt r.0 (end_always r.0 r.2),
    )

any_always : (s : State) (l : Line) → Whole s l → (t : State) × (read_any s ≡ got l t)
any_always s l w = let r = any_read s l w.words w.ranges in (r.0, r.1 ∙ cond-true _ _ _ w.agreement)

-- lines

told_is : (a : Answer Line) (l : Line) → told a ≡ says l → (t : State) × (a ≡ got l t)
told_is (got m t) l e = let z : m ≡ l = cc in (t, ap (λ x. got x t) z)
told_is (no n p) l e = let z : ◌≡◌ {A = ℕ} 0 1 = cc in absurd (omega arith)

form_by : (s : State) (b : Bool) (l : Line) → cond b blank (told (read_any s)) ≡ says l → Whole s l
form_by s true l e = let z : ◌≡◌ {A = ℕ} 0 1 = cc in absurd (omega arith)
form_by s false l e = let g = told_is (read_any s) l e in any_only s g.0 l g.1

pub line_only : (line : List ℕ) (o : Option (ℕ × ℕ)) (l : Line) → fault_of line ≡ o → told_by o (line_state line) ≡ says l → IsLineOf line l
line_only line (Some f) l h e = let z : ◌≡◌ {A = ℕ} 0 1 = cc in absurd (omega arith)
line_only line None l h e =
    let w = form_by (line_state line) (ends (line_state line)) l e in
    record { bytes = h; words = w.words; ranges = w.ranges; agreement = w.agreement }

pub not_ended : (s : State) (t : List ℕ) (ts : List (List ℕ)) → texts s.left ≡ t ∷ ts → ends s ≡ false
not_ended s t ts h =
    ⊎_elim
    (λ y. let n : ◌≡◌ {A = List (List ℕ)} [] (t ∷ ts) = sym (ends_only s y) ∙ h in let z : ◌≡◌ {A = ℕ} 0 1 = cc in absurd (omega arith))
    (λ f. f)
    (cases_Bool (ends s))

line_always : (line : List ℕ) (l : Line) → IsLineOf line l → line_told line ≡ says l
line_always line l i =
    let s = line_state line in
    let g = any_always s l (record { words = i.words; ranges = i.ranges; agreement = i.agreement }) in
    ap (λ o. told_by o s) i.bytes ∙ cond-false _ _ _ (not_ended s open_text (name_of l.name ∷ words_of (shape_of l.name) l.values) i.words) ∙ ap told g.1

told_no_blank : (a : Answer Line) → told a ≡ blank → ⊥
told_no_blank (got m t) e = cc
told_no_blank (no n p) e = cc

blank_by : (s : State) (b : Bool) → ends s ≡ b → cond b blank (told (read_any s)) ≡ blank → texts s.left ≡ []
blank_by s true h e = ends_only s h
blank_by s false h e = absurd (told_no_blank (read_any s) e)

pub blank_only : (line : List ℕ) (o : Option (ℕ × ℕ)) → fault_of line ≡ o → told_by o (line_state line) ≡ blank → IsBlank line
blank_only line (Some f) h e = let z : ◌≡◌ {A = ℕ} 0 1 = cc in absurd (omega arith)
blank_only line None h e = record { bytes = h; words = blank_by (line_state line) (ends (line_state line)) refl e }

blank_always : (line : List ℕ) → IsBlank line → line_told line ≡ blank
blank_always line i = ap (λ o. told_by o (line_state line)) i.bytes ∙ cond-true _ _ _ (ends_always (line_state line) i.words)

pub exactly : (line : List ℕ) (r : Result (Option Form) Decline) → told_of r ≡ line_told line → ReadsExactly line r
exactly line r e = record {
  form = λ l h. line_only line (fault_of line) l refl (sym e ∙ h);
  so_form = λ l i. e ∙ line_always line l i;
  nothing = λ h. blank_only line (fault_of line) refl (sym e ∙ h);
  so_nothing = λ i. e ∙ blank_always line i;
}
