-- The words of a line, each with its place. Assumes nothing.
use Rattle.std.specs.Prelude.{ℕ, ◌+◌, Bool, false, cond, List, [], ◌∷◌}
use Rattle.words.specs.Classes.{is_blank, is_bracket, is_joined}

-- a word's bytes, and the place of the first of them in its line, counted from 1
pub record Word : Type 0 where
  pub text : List ℕ
  pub place : ℕ

-- whether bytes go on with the word before them
abbrev pub goes_on : List ℕ → Bool
goes_on [] = false
goes_on (b ∷ bs) = is_joined b

-- the words of a byte at place p and of what follows it, which goes on with the byte's word or does not
abbrev pub joined : Bool → ℕ → ℕ → List Word → List Word
joined on p b [] = record { text = b ∷ []; place = p } ∷ []
joined on p b (w ∷ ws) = cond on (record { text = b ∷ w.text; place = p } ∷ ws) (record { text = b ∷ []; place = p } ∷ w ∷ ws)

-- the words of a line's bytes from place p on: a bracket is a word by itself, blanks part the others
unfoldable pub words_from : ℕ → List ℕ → List Word
words_from p [] = []
words_from p (b ∷ bs) =
    cond (is_blank b) (words_from (p + 1) bs)
    (cond (is_bracket b) (record { text = b ∷ []; place = p } ∷ words_from (p + 1) bs)
    (joined (goes_on bs) p b (words_from (p + 1) bs)))

-- the bytes of each
abbrev pub texts : List Word → List (List ℕ)
texts [] = []
texts (w ∷ ws) = w.text ∷ texts ws
