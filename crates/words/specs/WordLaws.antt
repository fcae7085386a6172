-- What bytes, words and numerals are. Assumes nothing.
use Rattle.std.specs.Prelude.{◌≡◌, ◌≢◌, ◌⊎◌, ◌↔◌, ℕ, ◌+◌, ◌^◌, ◌<◌, ◌≤◌, true, false, List, [], ◌∷◌, ◌++◌, length, ℤ, nat_abs, Some}
use Rattle.std.specs.List.{AllByRecursion}
use Rattle.std.specs.Fmt.{signed_decimal}
use Rattle.words.specs.Classes.{is_foreign, is_blank, is_bracket, is_joined}
use Rattle.words.specs.Lines.{Word, words_from}
use Rattle.words.specs.Numerals.{value_of}

abbrev pub Blanks : List ℕ → Type 0
Blanks bs = AllByRecursion (λ b. is_blank b ≡ true) bs

-- the bytes after a word: none, or a first that is a blank or a bracket
abbrev pub Ends : List ℕ → Type 0
Ends [] = Unit {0}
Ends (b ∷ bs) = is_joined b ≡ false

-- a bracket by itself; or bytes that are neither blanks nor brackets, as far as they go
abbrev pub IsWord : List ℕ → List ℕ → Type 0
IsWord text rest =
    ((b : ℕ) × (text ≡ b ∷ []) × (is_bracket b ≡ true))
    ⊎ ((text ≢ []) × AllByRecursion (λ b. is_joined b ≡ true) text × Ends rest)

-- the bytes from place p on are these words with their places, and blanks before, between and after them
abbrev pub WordsAre : ℕ → List ℕ → List Word → Type 0
WordsAre p bs [] = Blanks bs
WordsAre p bs (w ∷ ws) =
    (blanks : List ℕ) × (rest : List ℕ) × Blanks blanks × (bs ≡ blanks ++ (w.text ++ rest)) × (w.place ≡ p + length blanks) × IsWord w.text rest × WordsAre (w.place + length w.text) rest ws

abbrev pub WordsLaw : Type 0
WordsLaw = (p : ℕ) (bs : List ℕ) → WordsAre p bs (words_from p bs)

-- the numerals are the decimal texts of the numbers of at most ten digits
pub record NumeralLaw : Type 0 where
  pub value : (t : List ℕ) (z : ℤ) → (value_of t ≡ Some z) ↔ ((t ≡ signed_decimal z) × (nat_abs z < 10 ^ 10))

-- a to z, 0 to 9, minus, the brackets and blank
abbrev pub IsKnown : ℕ → Type 0
IsKnown b = ((97 ≤ b) × (b ≤ 122)) ⊎ ((48 ≤ b) × (b ≤ 57)) ⊎ (b ≡ 45) ⊎ (b ≡ 40) ⊎ (b ≡ 41) ⊎ (b ≡ 32)

pub record BytesLaw : Type 0 where
  pub blank : (b : ℕ) → (is_blank b ≡ true) ↔ (b ≡ 32)
  pub bracket : (b : ℕ) → (is_bracket b ≡ true) ↔ ((b ≡ 40) ⊎ (b ≡ 41))
  pub foreign : (b : ℕ) → (is_foreign b ≡ true) ↔ (IsKnown b → ⊥)
  pub joined : (b : ℕ) → (is_joined b ≡ true) ↔ ((b ≢ 32) × (b ≢ 40) × (b ≢ 41))
