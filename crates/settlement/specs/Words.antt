-- The words of verdicts. Assumes nothing.
use Rattle.std.specs.Prelude.{ℕ, List, codes}
use Rattle.settlement.specs.declared.verdicts.Verdict.{Verdict}
use Rattle.settlement.specs.declared.verdicts.Verdict.TheVariants.{Least, Within}

abbrev pub word_of : Verdict → List ℕ
word_of Least = codes "least"
word_of Within = codes "within"
