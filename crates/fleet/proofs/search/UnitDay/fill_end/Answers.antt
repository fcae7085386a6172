use Rattle.std.proofs.Common.{None, sym, ◌∙◌, subst, refl, arith, below_more, get_or-set_other, get_or-set_same}
use Rattle.fleet.specs.Table.{Best, ToGo}
use Rattle.fleet.proofs.Steps.{end_yes, end_no}
use Rattle.fleet.proofs.search.UnitDay.fill_end.Goals as goal
use Rattle.fleet.proofs.search.UnitDay.fill_end.Goals.{then-may_end, else-may_end}

pub loop-state-preserved : goal.loop-state-preserved
loop-state-preserved g c =
    let sp = (g.met.F.Fleet.sound c.args.self.now.fleet.now).each c.args.self.now.unit in
    let slots = c.loop-state.slots in
    let i = c.loop-state.state in
    below_more _ i
    (λ a lt. subst (Best g.S.Score.scale (ToGo g.S.Score.scale _ _ _ _ a)) (sym (get_or-set_other slots i a c.if-may_end.slot None (λ e. omega arith))) (c.loop-state.invariant a lt))
    (subst (Best g.S.Score.scale (ToGo g.S.Score.scale _ _ _ _ i)) (sym (get_or-set_same slots i c.if-may_end.slot None (omega arith)))
    (elim c.if-may_end.branch [
      | then-may_end w ↦ rw (w.slot-is, w.zero.ensures) (end_yes g.met.S.Score.lawful _ sp _ _ _ i refl (sym c.may_end.ensures ∙ w.if-may_end.true))
      | else-may_end w ↦ rw w.slot-is (end_no g.met.S.Score.lawful _ sp _ _ _ i refl (sym c.may_end.ensures ∙ w.if-may_end.false))
    ]))
