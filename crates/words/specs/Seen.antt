-- What the code holds of words, as the grammar sees it. Assumes nothing.
use Rattle.std.specs.Prelude.{ℕ, ◌+◌, List, length, Some, None, Option}
use Rattle.words.specs.declared.word.Word.{Word as WordParts}
use Rattle.words.specs.declared.word.Word.TheVariants.{Bracket, Name, Numeral}
use Rattle.words.specs.declared.word.PlacedWord.{PlacedWord}
use Rattle.words.specs.declared.line.Words.{Words}
use Rattle.words.specs.Lines.{Word, words_from}
use Rattle.words.specs.Grammar.{State, Kind, bracket, name, numeral}

abbrev pub text_of : WordParts → List ℕ
text_of (Bracket t) = t.now
text_of (Name t) = t.now
text_of (Numeral t z) = t.now

abbrev pub kind_of : WordParts → Kind
kind_of (Bracket t) = bracket
kind_of (Name t) = name
kind_of (Numeral t z) = numeral z

abbrev pub seen : Option PlacedWord → Option Word
seen None = None
seen (Some w) = Some (record { text = text_of w.word; place = w.place })

-- the words that are left, and the place after the last byte
abbrev pub state_of : Words → State
state_of w = record { left = words_from w.place w.rest.now; end = w.place + length w.rest.now }
