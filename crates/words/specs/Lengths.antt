-- How long the word is that stands in front of bytes. Assumes nothing.
use Rattle.std.specs.Prelude.{ℕ, cond, List, [], ◌∷◌}
use Rattle.std.specs.List.{prefix_len}
use Rattle.words.specs.Classes.{is_bracket, is_joined}

abbrev pub word_length : List ℕ → ℕ
word_length [] = 0
word_length (b ∷ bs) = cond (is_bracket b) 1 (prefix_len is_joined (b ∷ bs))
