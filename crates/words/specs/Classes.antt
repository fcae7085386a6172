-- The bytes of a line, by what they may be part of. Assumes nothing.
use Rattle.std.specs.Prelude.{ℕ, ◌+◌, Bool, true, false, cond, ◌&&◌, List, length, Some, None, Ok, Err, Option, Result, ◌==◌, nat_le, nat_lt, position}
use Rattle.terms.specs.declared.decline.Decline.{Decline}
use Rattle.terms.specs.declared.decline.Layer.TheVariants.{Reader}
use Rattle.terms.specs.Declines.{Says}
use Rattle.words.specs.declared.classes.Class.{Class}
use Rattle.words.specs.declared.classes.Class.TheVariants.{Letter, Digit, Minus, Open, Close, Blank, Foreign}

-- a to z, 0 to 9, minus, the brackets, blank, and anything else
abbrev pub class_of : ℕ → Class
class_of b =
    cond (nat_le 97 b && nat_le b 122) Letter
    (cond (nat_le 48 b && nat_le b 57) Digit
    (cond (b == 45) Minus (cond (b == 40) Open (cond (b == 41) Close (cond (b == 32) Blank Foreign)))))

abbrev pub is_foreign_class : Class → Bool
is_foreign_class Letter = false
is_foreign_class Digit = false
is_foreign_class Minus = false
is_foreign_class Open = false
is_foreign_class Close = false
is_foreign_class Blank = false
is_foreign_class Foreign = true

abbrev pub is_blank_class : Class → Bool
is_blank_class Letter = false
is_blank_class Digit = false
is_blank_class Minus = false
is_blank_class Open = false
is_blank_class Close = false
is_blank_class Blank = true
is_blank_class Foreign = false

abbrev pub is_bracket_class : Class → Bool
is_bracket_class Letter = false
is_bracket_class Digit = false
is_bracket_class Minus = false
is_bracket_class Open = true
is_bracket_class Close = true
is_bracket_class Blank = false
is_bracket_class Foreign = false

-- neither a blank, which parts words, nor a bracket, which is one by itself
abbrev pub is_joined_class : Class → Bool
is_joined_class Letter = true
is_joined_class Digit = true
is_joined_class Minus = true
is_joined_class Open = false
is_joined_class Close = false
is_joined_class Blank = false
is_joined_class Foreign = true

abbrev pub is_foreign : ℕ → Bool
is_foreign b = is_foreign_class (class_of b)

abbrev pub is_blank : ℕ → Bool
is_blank b = is_blank_class (class_of b)

abbrev pub is_bracket : ℕ → Bool
is_bracket b = is_bracket_class (class_of b)

abbrev pub is_joined : ℕ → Bool
is_joined b = is_joined_class (class_of b)

-- number and place, counted from 1
abbrev pub foreign_at : Option ℕ → Option (ℕ × ℕ)
foreign_at None = None
foreign_at (Some i) = Some (3, i + 1)

-- what is wrong with a line's bytes: over 1,024, then a foreign byte
abbrev pub fault_of : List ℕ → Option (ℕ × ℕ)
fault_of line = cond (nat_lt 1024 (length line)) (Some (2, 1025)) (foreign_at (position is_foreign line))

-- taken where nothing is wrong, else declined with that number at that place
abbrev pub FaultIs : {X : Type 0} → Option (ℕ × ℕ) → Result X Decline → Type 0
FaultIs None (Ok x) = Unit {0}
FaultIs None (Err d) = ⊥
FaultIs (Some f) (Ok x) = ⊥
FaultIs (Some f) (Err d) = Says Reader f.0 f.1 d
