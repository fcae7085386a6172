-- The shapes of forms, as data: how a form is read, with which words it is written, and which values fit. Assumes nothing.
use Rattle.std.specs.Prelude.{ℕ, ◌≤◌, false, cond, List, [], ◌∷◌, ◌++◌, length, ℤ, pos, ◌≤ℤ◌, ◌⊎◌, decimal}
use Rattle.std.specs.Fmt.{signed_decimal}
use Rattle.std.proofs.Common.{inl, inr}
use Rattle.words.specs.Grammar.{Reader, bind, give, number, magnitude, word, stands, up_to, open_text, close_text}

pub data Shape : Type 0 → Type 1 where
  -- no word
  nothing : Shape (Unit {0})
  -- a numeral from lo to hi
  natural : ℤ → ℤ → Shape ℕ
  whole : ℤ → ℤ → Shape ℤ
  -- a word, and then a shape
  after : {A : Type 0} → List ℕ → Shape A → Shape A
  -- a shape, and then a closing bracket
  ended : {A : Type 0} → Shape A → Shape A
  -- one shape, and then another
  both : {A B : Type 0} → Shape A → Shape B → Shape (A × B)
  -- a shape 1 to n times, and then a closing bracket
  many : {A : Type 0} → ℕ → Shape A → Shape (List A)
  -- one word and its shape, or another word and its shape
  either : {A B : Type 0} → List ℕ → Shape A → List ℕ → Shape B → Shape (A ⊎ B)
  -- a shape, of which the value is put another way
  put : {A B : Type 0} → (A → B) → (B → A) → Shape A → Shape B

-- how a form is read
abbrev pub read : {A : Type 0} → Shape A → Reader A
read nothing s = give tt s
read (natural lo hi) s = magnitude lo hi s
read (whole lo hi) s = number lo hi s
read (after w f) s = bind (word w s) (λ _. read f)
read (ended f) s = bind (read f s) (λ a s₁. bind (word close_text s₁) (λ _. give a))
read (both f g) s = bind (read f s) (λ a s₁. bind (read g s₁) (λ b. give (a, b)))
read (many n f) s = up_to n false (read f) s
read (either v f w g) s =
    cond (stands v s) (bind (word v s) (λ _ s₁. bind (read f s₁) (λ a. give (inl a))))
    (bind (word w s) (λ _ s₁. bind (read g s₁) (λ b. give (inr b))))
read (put to from f) s = bind (read f s) (λ a. give (to a))

-- the words of each of a list, and then a closing bracket
abbrev pub words_of_each : {A : Type 0} → (A → List (List ℕ)) → List A → List (List ℕ)
words_of_each ws [] = close_text ∷ []
words_of_each ws (x ∷ xs) = ws x ++ words_of_each ws xs

-- the words that a form is written with
abbrev pub words_of : {A : Type 0} → Shape A → A → List (List ℕ)
words_of nothing a = []
words_of (natural lo hi) a = decimal a ∷ []
words_of (whole lo hi) a = signed_decimal a ∷ []
words_of (after w f) a = w ∷ words_of f a
words_of (ended f) a = words_of f a ++ (close_text ∷ [])
words_of (both f g) a = words_of f a.0 ++ words_of g a.1
words_of (many n f) a = words_of_each (words_of f) a
words_of (either v f w g) (inl a) = v ∷ words_of f a
words_of (either v f w g) (inr a) = w ∷ words_of g a
words_of (put to from f) a = words_of f (from a)

abbrev pub EachFits : {A : Type 0} → (A → Type 0) → List A → Type 0
EachFits Fit [] = Unit {0}
EachFits Fit (x ∷ xs) = Fit x × EachFits Fit xs

-- every numeral is in its range, and every repeat has its number of times
abbrev pub Fits : {A : Type 0} → Shape A → A → Type 0
Fits nothing a = Unit {0}
Fits (natural lo hi) a = (lo ≤ℤ pos a) × (pos a ≤ℤ hi)
Fits (whole lo hi) a = (lo ≤ℤ a) × (a ≤ℤ hi)
Fits (after w f) a = Fits f a
Fits (ended f) a = Fits f a
Fits (both f g) a = Fits f a.0 × Fits g a.1
Fits (many n f) a = (1 ≤ length a) × (length a ≤ n) × EachFits (Fits f) a
Fits (either v f w g) (inl a) = Fits f a
Fits (either v f w g) (inr a) = Fits g a
Fits (put to from f) a = Fits f (from a)

-- ( .. ), and (KEY ..)
abbrev pub bracketed : {A : Type 0} → Shape A → Shape A
bracketed f = after open_text (ended f)

abbrev pub group : {A : Type 0} → List ℕ → Shape A → Shape A
group key f = after open_text (after key (ended f))
