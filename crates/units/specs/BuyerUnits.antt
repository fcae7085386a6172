-- A buyer: one state, and lots taken for their price. Assumes nothing.
use Rattle.std.specs.Prelude.{true, List, ℤ, pos, neg_ℤ, unsigned_abs}
use Rattle.fleet.specs.declared.records.Range.{Range}
use Rattle.reader.specs.declared.steps.Step.{Step}
use Rattle.reader.specs.Steps.{lots_in}
use Rattle.units.specs.Fill.{fill}
use Rattle.units.specs.Links.{Links}

abbrev pub takes : List Step → Range
takes ss = record { lo = neg_ℤ (pos (lots_in ss)); hi = pos 0 }

-- what taking |q| lots costs: minus their price
abbrev pub taking : List Step → ℤ → ℤ
taking ss q = neg_ℤ (fill ss (unsigned_abs q))

abbrev pub buyer_links : List Step → Links
buyer_links ss = record {
  states = 1;
  start = 0;
  linked = λ a b. true;
  outputs = λ a b. takes ss;
  charge = λ a b q. taking ss q;
  ends = λ a. true;
}
