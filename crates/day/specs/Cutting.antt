-- The lines of a file: each ended by a newline, which the last may lack. Assumes nothing.
use Rattle.std.specs.Prelude.{◌≡◌, ◌≢◌, ◌⊎◌, ℕ, Bool, cond, List, [], ◌∷◌, ◌++◌, ◌==◌}
use Rattle.std.specs.List.{AllByRecursion}

abbrev pub is_newline : ℕ → Bool
is_newline b = b == 10

-- a byte before the first line
abbrev pub onto_first : ℕ → List (List ℕ) → List (List ℕ)
onto_first b [] = (b ∷ []) ∷ []
onto_first b (l ∷ ls) = (b ∷ l) ∷ ls

abbrev pub lines_of : List ℕ → List (List ℕ)
lines_of [] = []
lines_of (b ∷ bs) = cond (is_newline b) ([] ∷ lines_of bs) (onto_first b (lines_of bs))

-- no byte is a newline
abbrev pub OneLine : List ℕ → Type 0
OneLine l = AllByRecursion (λ b. b ≢ 10) l

-- the file is these lines, each before a newline, which the last may lack where it is not empty
abbrev pub LinesAre : List ℕ → List (List ℕ) → Type 0
LinesAre file [] = file ≡ []
LinesAre file (l ∷ ls) =
    OneLine l × (((l ≢ []) × (file ≡ l) × (ls ≡ [])) ⊎ ((rest : List ℕ) × (file ≡ l ++ (10 ∷ rest)) × LinesAre rest ls))

-- a file has these lines, and no others
pub record LinesLaw : Type 0 where
  pub lines : (file : List ℕ) → LinesAre file (lines_of file)
  pub once : (file : List ℕ) (ls ms : List (List ℕ)) → LinesAre file ls → LinesAre file ms → ls ≡ ms
