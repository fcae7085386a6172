use Rattle.std.proofs.Common.{◌≡◌, true, sym, subst, ◌∙◌}
use Rattle.reader.specs.Steps.{fair_places}
use Rattle.reader.proofs.StepLists.{fair_padded}
use Rattle.reader.proofs.steps.Steps.new.Goals as goal

pub invariant_of-result : goal.invariant_of-result
invariant_of-result c = record {
  four = c.padded-places.ensures.long;
  fair = subst (λ p. fair_places p ≡ true) (sym c.padded-places.ensures.padded) (fair_padded c.args.steps.now (sym c.is_fair_list.ensures ∙ c.if-is_fair_list.true));
}
