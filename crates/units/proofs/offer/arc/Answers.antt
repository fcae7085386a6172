use Rattle.units.proofs.Rules.{keeps_rule}
use Rattle.units.proofs.offer.arc.Goals as goal

pub returns-in-Ramp-clause-rule : goal.returns-in-Ramp-clause-rule
returns-in-Ramp-clause-rule c = keeps_rule c.args.offer.now
