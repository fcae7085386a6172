use Rattle.requests.proofs.Goings.{Going}
use Rattle.requests.proofs.settling.settle.Given as goal

abbrev pub invariant-loop-at : goal.invariant-loop-at
invariant-loop-at g l =
    Going g.F.Fleet.meaning l.initial.docket.fleet l.periods l.weight l.requests
    (record { gains = l.initial.gains; fewer = l.initial.fewer; more = l.initial.more; schedule = l.initial.schedule; pays = l.initial.pays })
    l.initial.answers l.at l.docket
    (record { gains = l.gains; fewer = l.fewer; more = l.more; schedule = l.schedule; pays = l.pays })
    l.answers
