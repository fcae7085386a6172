-- How a form is read, word by word. Assumes nothing.
use Rattle.std.specs.Prelude.{ℕ, zero, suc, Bool, true, false, cond, ◌&&◌, List, [], ◌∷◌, ℤ, nat_abs, Some, None, Option, int_le}
use Rattle.std.specs.Str.{bytes_eq}
use Rattle.words.specs.Classes.{is_bracket}
use Rattle.words.specs.Lines.{Word}
use Rattle.words.specs.Numerals.{value_of}

-- what is left of a line: its words, and the place after its last byte
pub record State : Type 0 where
  pub left : List Word
  pub end : ℕ

-- a value and what is left after it, or a decline: its number and place
pub data Answer (A : Type 0) : Type 0 where
  got : A → State → Answer A
  no : ℕ → ℕ → Answer A

abbrev pub Reader : Type 0 → Type 0
Reader A = State → Answer A

-- one reader, then the next, which may ask what the first found
abbrev pub bind : {A B : Type 0} → Answer A → (A → Reader B) → Answer B
bind (got a s) f = f a s
bind (no n p) f = no n p

abbrev pub give : {A : Type 0} → A → Reader A
give a s = got a s

abbrev pub head : List Word → Option Word
head [] = None
head (w ∷ ws) = Some w

abbrev pub tail : List Word → List Word
tail [] = []
tail (w ∷ ws) = ws

-- the next word, and what is left past it
abbrev pub first : State → Option Word
first s = head s.left

abbrev pub past : State → State
past s = record { left = tail s.left; end = s.end }

-- a word by what its bytes are, a numeral with the number that it says
pub data Kind : Type 0 where
  bracket : Kind
  name : Kind
  numeral : ℤ → Kind

abbrev pub is_bracket_text : List ℕ → Bool
is_bracket_text [] = false
is_bracket_text (b ∷ bs) = is_bracket b

abbrev pub name_unless : Option ℤ → Kind
name_unless None = name
name_unless (Some z) = numeral z

abbrev pub kind_of_text : List ℕ → Kind
kind_of_text t = cond (is_bracket_text t) bracket (name_unless (value_of t))

-- the word w, or 5: at another word, or after the last byte
abbrev pub word_in : List ℕ → State → Option Word → Answer (Unit {0})
word_in w s None = no 5 s.end
word_in w s (Some x) = cond (bytes_eq x.text w) (got tt (past s)) (no 5 x.place)

unfoldable pub word : List ℕ → Reader (Unit {0})
word w s = word_in w s (first s)

-- no further word, or 5
abbrev pub end_in : State → Option Word → Answer (Unit {0})
end_in s None = got tt s
end_in s (Some x) = no 5 x.place

unfoldable pub end : Reader (Unit {0})
end s = end_in s (first s)

abbrev pub within : ℤ → ℤ → ℤ → Bool
within lo hi z = int_le lo z && int_le z hi

-- where a numeral may stand, a bracket is 5, a name 6, and a numeral out of range 7
abbrev pub number_at : ℤ → ℤ → State → ℕ → Kind → Answer ℤ
number_at lo hi s p bracket = no 5 p
number_at lo hi s p name = no 6 p
number_at lo hi s p (numeral z) = cond (within lo hi z) (got z (past s)) (no 7 p)

abbrev pub number_in : ℤ → ℤ → State → Option Word → Answer ℤ
number_in lo hi s None = no 5 s.end
number_in lo hi s (Some x) = number_at lo hi s x.place (kind_of_text x.text)

-- a numeral from lo to hi
unfoldable pub number : ℤ → ℤ → Reader ℤ
number lo hi s = number_in lo hi s (first s)

-- a numeral from lo to hi without its sign, for ranges that are not negative
abbrev pub magnitude : ℤ → ℤ → Reader ℕ
magnitude lo hi s = bind (number lo hi s) (λ z. give (nat_abs z))

abbrev pub is_got : {A : Type 0} → Answer A → Bool
is_got (got a s) = true
is_got (no n p) = false

-- whether the word w stands next
abbrev pub stands : List ℕ → State → Bool
stands w s = is_got (word w s)

-- whether no word is left
abbrev pub ends : State → Bool
ends s = is_got (end s)

abbrev pub open_text : List ℕ
open_text = 40 ∷ []

abbrev pub close_text : List ℕ
close_text = 41 ∷ []

-- up to n times r, as long as no closing bracket stands next, and then that bracket; at least once, unless it follows
-- one that is read
unfoldable pub up_to : {A : Type 0} → ℕ → Bool → Reader A → Reader (List A)
up_to zero follows r s = bind (word close_text s) (λ _. give [])
up_to (suc n) follows r s =
    cond (follows && stands close_text s) (bind (word close_text s) (λ _. give []))
    (bind (r s) (λ x s₁. bind (up_to n true r s₁) (λ xs. give (x ∷ xs))))
