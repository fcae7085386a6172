-- A form is read by its name.
use Rattle.std.proofs.Common.{◌≡◌, ap, ◌∙◌, sym}
use Rattle.words.specs.Grammar.{State, Answer}
use Rattle.reader.specs.declared.names.FormName.{FormName}
use Rattle.reader.specs.Forms.{Line, read_form}

pub by_name : (a : Answer Line) (k j : FormName) (s : State) → k ≡ j → a ≡ read_form j s → a ≡ read_form k s
by_name a k j s e h = h ∙ ap (λ i. read_form i s) (sym e)
