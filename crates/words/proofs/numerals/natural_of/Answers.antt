use Rattle.std.proofs.Common.{rules}
use Rattle.std.proofs.lemmas.List.{get_or_past}
use Rattle.words.proofs.Scans.{first_high}
use Rattle.words.proofs.numerals.natural_of.Goals as goal

pub returns-in_default : goal.returns-in_default
returns-in_default c = search (rules, get_or_past)

pub returns-in_default-4 : goal.returns-in_default-4
returns-in_default-4 c = search (rules, first_high)
