-- The number that a word says. Assumes nothing.
use Rattle.std.specs.Prelude.{ℕ, ◌+◌, ◌-◌, ◌*◌, Bool, false, cond, ◌&&◌, List, [], ◌∷◌, length, ℤ, pos, neg_ℤ, Some, None, Option, ◌==◌, nat_le, nat_lt, slice_index}
use Rattle.std.specs.Char.{is_ascii_digit}

-- the number that digits write, after a number that is read already; none where a byte is no digit
abbrev pub digits_from : ℕ → List ℕ → Option ℕ
digits_from n [] = Some n
digits_from n (d ∷ ds) = cond (is_ascii_digit d) (digits_from (n * 10 + (d - 48)) ds) None

-- one to ten digits, the first not 0
abbrev pub natural_of : List ℕ → Option ℕ
natural_of ds = cond (nat_lt 48 (slice_index ds 0) && nat_le (length ds) 10) (digits_from 0 ds) None

abbrev pub is_zero : List ℕ → Bool
is_zero [] = false
is_zero (b ∷ []) = b == 48
is_zero (b ∷ c ∷ bs) = false

abbrev pub signed_by : (ℕ → ℤ) → Option ℕ → Option ℤ
signed_by f None = None
signed_by f (Some n) = Some (f n)

abbrev pub signed_of : List ℕ → Option ℤ
signed_of [] = None
signed_of (b ∷ ds) = cond (b == 45) (signed_by (λ n. neg_ℤ (pos n)) (natural_of ds)) (signed_by pos (natural_of (b ∷ ds)))

-- an optional minus and then one to ten digits, with no needless 0 and no minus before 0
abbrev pub value_of : List ℕ → Option ℤ
value_of bs = cond (is_zero bs) (Some (pos 0)) (signed_of bs)
