-- What reading a shape says of the words: a shape reads to a value exactly when the words are the words of that value, with
-- every numeral in range. Assumes nothing.
use Rattle.std.specs.Prelude.{◌≡◌, ℕ, ◌^◌, ◌<◌, ◌≤◌, Bool, true, false, ◌&&◌, not, List, ◌++◌, ℤ, pos, nat_abs, ◌≤ℤ◌}
use Rattle.std.specs.Str.{bytes_eq}
use Rattle.words.specs.Lines.{texts}
use Rattle.words.specs.Grammar.{State, got, close_text}
use Rattle.words.specs.Shapes.{Shape, nothing, natural, whole, after, ended, both, many, either, put, read, words_of, Fits}

-- whether it cannot begin with a closing bracket
abbrev pub opens : {A : Type 0} → Shape A → Bool
opens nothing = false
opens (natural lo hi) = true
opens (whole lo hi) = true
opens (after w f) = not (bytes_eq w close_text)
opens (ended f) = opens f
opens (both f g) = opens f
opens (many n f) = opens f
opens (either v f w g) = not (bytes_eq v close_text) && not (bytes_eq w close_text)
opens (put to from f) = opens f

-- ten digits hold the range
pub record TenDigits (lo hi : ℤ) : Type 0 where
  pub low : nat_abs lo < 10 ^ 10
  pub high : nat_abs hi < 10 ^ 10

-- ranges lie within ten digits, a repeat can be told from the bracket after it, and the two words of a choice differ
abbrev pub Sound : {A : Type 0} → Shape A → Type 0
Sound nothing = Unit {0}
Sound (natural lo hi) = (pos 0 ≤ℤ lo) × TenDigits lo hi
Sound (whole lo hi) = TenDigits lo hi
Sound (after w f) = Sound f
Sound (ended f) = Sound f
Sound (both f g) = Sound f × Sound g
Sound (many n f) = (1 ≤ n) × (opens f ≡ true) × Sound f
Sound (either v f w g) = (bytes_eq w v ≡ false) × Sound f × Sound g
Sound (put {A} {B} to from f) = ((a : A) → from (to a) ≡ a) × ((b : B) → to (from b) ≡ b) × Sound f

-- the value fits, and its words stand in front of what is left
pub record Took {A : Type 0} (f : Shape A) (s : State) (a : A) (t : State) : Type 0 where
  pub fits : Fits f a
  pub words : texts s.left ≡ words_of f a ++ texts t.left
  pub end : t.end ≡ s.end

pub record Law {A : Type 0} (f : Shape A) : Type 0 where
  -- what is read is there
  pub only : (s t : State) (a : A) → read f s ≡ got a t → Took f s a t
  -- what is there is read
  pub always : (s : State) (a : A) (ts : List (List ℕ)) → Fits f a → texts s.left ≡ words_of f a ++ ts → (t : State) × (read f s ≡ got a t) × (texts t.left ≡ ts)
