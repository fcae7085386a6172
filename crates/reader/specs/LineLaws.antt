-- A line is read to a form exactly when its words are the words of that form. Assumes nothing.
use Rattle.std.specs.Prelude.{◌≡◌, ℕ, true, List, [], ◌∷◌, None, Option, Result}
use Rattle.terms.specs.declared.decline.Decline.{Decline}
use Rattle.words.specs.Classes.{fault_of}
use Rattle.words.specs.Lines.{texts, words_from}
use Rattle.words.specs.Grammar.{open_text}
use Rattle.words.specs.Shapes.{words_of, Fits}
use Rattle.reader.specs.declared.form.Form.{Form}
use Rattle.reader.specs.Names.{name_of}
use Rattle.reader.specs.Forms.{shape_of, agrees, Line, says, blank, told_of}

-- the words of a line's bytes
abbrev pub words_in : List ℕ → List (List ℕ)
words_in line = texts (words_from 1 line)

-- the words of a form with these numbers: an opening bracket, its name, and the rest with the closing bracket
abbrev pub words_of_line : Line → List (List ℕ)
words_of_line l = open_text ∷ name_of l.name ∷ words_of (shape_of l.name) l.values

-- the line is no longer than 1,024 bytes and none of them is foreign, its words are those of the form, every numeral is in
-- its range, and an offer's numbers agree
pub record IsLineOf (line : List ℕ) (l : Line) : Type 0 where
  pub bytes : fault_of line ≡ None
  pub words : words_in line ≡ words_of_line l
  pub ranges : Fits (shape_of l.name) l.values
  pub agreement : agrees l.name l.values ≡ true

-- a line without words
pub record IsBlank (line : List ℕ) : Type 0 where
  pub bytes : fault_of line ≡ None
  pub words : words_in line ≡ []

pub record ReadsExactly (line : List ℕ) (r : Result (Option Form) Decline) : Type 0 where
  pub form : (l : Line) → told_of r ≡ says l → IsLineOf line l
  pub so_form : (l : Line) → IsLineOf line l → told_of r ≡ says l
  pub nothing : told_of r ≡ blank → IsBlank line
  pub so_nothing : IsBlank line → told_of r ≡ blank

-- what is told of a reading leaves nothing of it open
abbrev pub ToldLaw : Type 0
ToldLaw = (r s : Result (Option Form) Decline) → told_of r ≡ told_of s → r ≡ s
