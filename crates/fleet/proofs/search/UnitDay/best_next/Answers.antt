use Rattle.std.proofs.Common.{refl, arith}
use Rattle.fleet.proofs.Slots.{slot_best}
use Rattle.fleet.proofs.Steps.{upto_less, upto_more, upto_all}
use Rattle.fleet.proofs.search.UnitDay.best_next.Goals as goal
use Rattle.fleet.proofs.search.UnitDay.best_next.Goals.{in-Some, in_default}

pub best_arc-requires : goal.best_arc-requires
best_arc-requires g c = record { within = c.requires.within; next = slot_best g.S.Score.scale _ _ _ _ c.loop-to.to c.args.next.now _ _ c.requires.next (let long = c.requires.next.long in omega arith) c.index-next-to.is refl }

pub loop-to-preserved : goal.loop-to-preserved
loop-to-preserved g c =
    let sp = (g.met.F.Fleet.sound c.args.self.now.fleet.now).each c.args.self.now.unit in
    elim c.match-best_arc.branch [
      | in-Some w ↦ rw (w.best-is, w.better-best.ensures) (upto_more g.met.S.Score.lawful _ sp _ _ _ _ _ _ _ w.in-Some.ensures c.loop-to.invariant)
      | in_default w ↦ rw w.best-is (upto_less g.met.S.Score.lawful _ sp _ _ _ _ _ _ w.in_default.ensures c.loop-to.invariant)
    ]

pub returns : goal.returns
returns g c =
    let sp = (g.met.F.Fleet.sound c.args.self.now.fleet.now).each c.args.self.now.unit in
    let all = c.requires.next.long in
    upto_all g.met.S.Score.lawful _ sp _ _ _ _ _ _ (omega arith) c.requires.within c.loop-to.invariant
