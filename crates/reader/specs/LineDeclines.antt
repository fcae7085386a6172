-- With which number and at which place a line is declined, said of its bytes and words. Assumes nothing.
use Rattle.std.specs.Prelude.{◌≡◌, ◌≢◌, ℕ, ◌+◌, ◌<◌, ◌≤◌, false, List, [], ◌∷◌, ◌++◌, length, ℤ, Some, None, Option, Result, ◌↔◌, position}
use Rattle.terms.specs.declared.decline.Decline.{Decline}
use Rattle.words.specs.Classes.{is_foreign, fault_of}
use Rattle.words.specs.Lines.{Word, texts, words_from}
use Rattle.words.specs.Numerals.{value_of}
use Rattle.words.specs.Grammar.{is_bracket_text, open_text}
use Rattle.words.specs.Shapes.{Fits}
use Rattle.reader.specs.declared.names.FormName.{FormName}
use Rattle.reader.specs.declared.form.Form.{Form}
use Rattle.reader.specs.Names.{name_of}
use Rattle.reader.specs.Forms.{shape_of, agrees, Line, declined, told_of}
use Rattle.reader.specs.LineLaws.{words_in, words_of_line}

-- 2: over 1,024 bytes
pub record IsTooLong (line : List ℕ) (p : ℕ) : Type 0 where
  pub long : 1024 < length line
  pub place : p ≡ 1025

-- 3: no longer than that, and the first foreign byte at p
pub record IsForeign (line : List ℕ) (p : ℕ) : Type 0 where
  pub short : length line ≤ 1024
  pub at : ℕ
  pub first : position is_foreign line ≡ Some at
  pub place : p ≡ at + 1

-- 4: an opening bracket, and then, at p, a word that names no form
pub record NamesNone (line : List ℕ) (p : ℕ) : Type 0 where
  pub bytes : fault_of line ≡ None
  pub bracket : Word
  pub word : Word
  pub rest : List Word
  pub words : words_from 1 line ≡ bracket ∷ word ∷ rest
  pub opens : bracket.text ≡ open_text
  pub nameless : (k : FormName) → word.text ≢ name_of k
  pub place : p ≡ word.place

-- 8: the words of a form with every numeral in its range, but its numbers disagree
pub record Disagrees (line : List ℕ) (p : ℕ) : Type 0 where
  pub bytes : fault_of line ≡ None
  pub form : Line
  pub words : words_in line ≡ words_of_line form
  pub ranges : Fits (shape_of form.name) form.values
  pub disagreement : agrees form.name form.values ≡ false
  pub place : p ≡ 1

-- these are all the words of some form with every numeral in its range, or the first of them
pub record IsForm (ts : List (List ℕ)) : Type 0 where
  pub form : Line
  pub ranges : Fits (shape_of form.name) form.values
  pub words : words_of_line form ≡ ts

pub record BeginsForm (ts : List (List ℕ)) : Type 0 where
  pub rest : List (List ℕ)
  pub form : IsForm (ts ++ rest)

-- after these words a form may go on with the first of the words left or, where none is left, end
abbrev pub MayFollow : List (List ℕ) → List Word → Type 0
MayFollow ts [] = IsForm ts
MayFollow ts (w ∷ ws) = BeginsForm (ts ++ (w.text ∷ []))

-- the place of the first of the words left, or the one after the last byte
abbrev pub place_of : List ℕ → List Word → ℕ
place_of line [] = 1 + length line
place_of line (w ∷ ws) = w.place

-- a form begins with the words before, and no form goes on after them as the line does, at p
pub record PartsAt (line : List ℕ) (p : ℕ) (before left : List Word) : Type 0 where
  pub bytes : fault_of line ≡ None
  pub written : words_in line ≢ []
  pub words : words_from 1 line ≡ before ++ left
  pub begins : BeginsForm (texts before)
  pub parts : MayFollow (texts before) left → ⊥
  pub place : p ≡ place_of line left

-- a numeral may stand after these words
pub record NumeralMayFollow (ts : List (List ℕ)) : Type 0 where
  pub text : List ℕ
  pub value : ℤ
  pub says : value_of text ≡ Some value
  pub begins : BeginsForm (ts ++ (text ∷ []))

-- a word that is no bracket stands next
abbrev pub NoBracketNext : List Word → Type 0
NoBracketNext [] = ⊥
NoBracketNext (w ∷ ws) = is_bracket_text w.text ≡ false

-- 5: the line ends, or a bracket stands at p, or no numeral may stand there; and it is not 4
pub record IsUnexpected (line : List ℕ) (p : ℕ) : Type 0 where
  pub before : List Word
  pub left : List Word
  pub at : PartsAt line p before left
  pub named : NamesNone line p → ⊥
  pub numeral : NumeralMayFollow (texts before) → NoBracketNext left → ⊥

-- 6: where a numeral may stand, a word that is neither a bracket nor a numeral
pub record IsNoNumeral (line : List ℕ) (p : ℕ) : Type 0 where
  pub before : List Word
  pub word : Word
  pub rest : List Word
  pub at : PartsAt line p before (word ∷ rest)
  pub numeral : NumeralMayFollow (texts before)
  pub bracket : is_bracket_text word.text ≡ false
  pub none : value_of word.text ≡ None

-- 7: where a numeral may stand, one that is out of its range
pub record IsOutOfRange (line : List ℕ) (p : ℕ) : Type 0 where
  pub before : List Word
  pub word : Word
  pub rest : List Word
  pub at : PartsAt line p before (word ∷ rest)
  pub numeral : NumeralMayFollow (texts before)
  pub value : ℤ
  pub says : value_of word.text ≡ Some value

-- a line is declined with each number at each place exactly where this is so, and with no other number
pub record DeclinesExactly (line : List ℕ) (r : Result (Option Form) Decline) : Type 0 where
  pub long : (p : ℕ) → (told_of r ≡ declined 2 p) ↔ IsTooLong line p
  pub foreign : (p : ℕ) → (told_of r ≡ declined 3 p) ↔ IsForeign line p
  pub names_none : (p : ℕ) → (told_of r ≡ declined 4 p) ↔ NamesNone line p
  pub unexpected : (p : ℕ) → (told_of r ≡ declined 5 p) ↔ IsUnexpected line p
  pub no_numeral : (p : ℕ) → (told_of r ≡ declined 6 p) ↔ IsNoNumeral line p
  pub out_of_range : (p : ℕ) → (told_of r ≡ declined 7 p) ↔ IsOutOfRange line p
  pub disagrees : (p : ℕ) → (told_of r ≡ declined 8 p) ↔ Disagrees line p
  pub numbers : (n p : ℕ) → told_of r ≡ declined n p → (2 ≤ n) × (n ≤ 8)
