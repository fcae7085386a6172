use Rattle.std.proofs.Common.{◌≡◌, true, pos, ◌+ℤ◌, ◌≤ℤ◌, Some, None, Option, sym, ap, ◌∙◌, subst, arith, w32, to_z, of_z}
use Rattle.std.proofs.lemmas.Int.{ints}
use Rattle.fleet.specs.declared.records.Range.{Range}
use Rattle.fleet.specs.Units.{SoundArc, holds}
use Rattle.fleet.proofs.Arcs.{among_from}
use Rattle.fleet.proofs.Slots.{slot_best}
use Rattle.fleet.proofs.RowFacts.{row_priced}
use Rattle.fleet.proofs.Steps.{togo_summed, sum_exact}
use Rattle.fleet.proofs.Firsts.{below_no_rest, below_no_arc, under_start, under_next, below_next, step_found, step_none}
use Rattle.fleet.proofs.search.UnitDay.first_step.Goals as goal
use Rattle.fleet.proofs.search.UnitDay.first_step.Goals.{else-loop-output-test, then-loop-output-test+else-le+else-output-output-end}

pub loop-to-preserved-in_default : goal.loop-to-preserved-in_default
loop-to-preserved-in_default g c =
    let sp = (g.met.F.Fleet.sound c.args.self.now.fleet.now).each c.args.self.now.unit in
    let all = c.requires.next.long in
    let next = slot_best g.S.Score.scale _ _ _ _ c.loop-to.to c.args.next.now _ None c.requires.next (omega arith) c.index-next-to.is c.in_default.is in
    below_no_rest g.met.S.Score.lawful _ sp _ _ _ _ _ c.loop-to.to next c.loop-to.invariant

pub loop-to-preserved-in_default-arc : goal.loop-to-preserved-in_default-arc
loop-to-preserved-in_default-arc g c =
    let sp = (g.met.F.Fleet.sound c.args.self.now.fleet.now).each c.args.self.now.unit in
    below_no_arc g.met.S.Score.lawful _ sp _ _ _ _ _ c.loop-to.to c.in_default-arc.ensures c.loop-to.invariant

pub loop-output-init : goal.loop-output-init
loop-output-init g c =
    let sp = (g.met.F.Fleet.sound c.args.self.now.fleet.now).each c.args.self.now.unit in
    let near : SoundArc (Some c.in-Some-arc.range) = subst SoundArc (sym c.in-Some-arc.ensures) (sp.arcs c.args.period c.args.from c.loop-to.to) in
    (omega (arith, ints), omega (arith, ints), under_start g.met.S.Score.lawful _ sp _ _ _ _ _ c.loop-to.to c.in-Some-arc.range _ (omega (arith, ints)) c.in-Some-arc.ensures)

pub score-score-requires : goal.score-score-requires
score-score-requires g c =
    let sp = (g.met.F.Fleet.sound c.args.self.now.fleet.now).each c.args.self.now.unit in
    let near : SoundArc (Some c.in-Some-arc.range) = subst SoundArc (sym c.in-Some-arc.ensures) (sp.arcs c.args.period c.args.from c.loop-to.to) in
    record { low = omega (arith, ints); high = omega (arith, ints) }

pub plus-requires : goal.plus-requires
plus-requires g c =
    let sp = (g.met.F.Fleet.sound c.args.self.now.fleet.now).each c.args.self.now.unit in
    let all = c.requires.next.long in
    let next = slot_best g.S.Score.scale _ _ _ _ c.loop-to.to c.args.next.now _ (Some c.in-Some.rest) c.requires.next (omega arith) c.index-next-to.is c.in-Some.is in
    sum_exact g.met.S.Score.lawful g.met.S.Score.adds c.score-score.result c.in-Some.rest c.score-score.ensures.fits (togo_summed g.met.S.Score.lawful _ sp _ (row_priced c.args.self.now.row.now) _ _ _ _ c.args.self.now.row.now.numerators.short (omega arith) next.0)

pub loop-output-preserved : goal.loop-output-preserved
loop-output-preserved g c =
    let sp = (g.met.F.Fleet.sound c.args.self.now.fleet.now).each c.args.self.now.unit in
    let all = c.requires.next.long in
    let near : SoundArc (Some c.in-Some-arc.range) = subst SoundArc (sym c.in-Some-arc.ensures) (sp.arcs c.args.period c.args.from c.loop-to.to) in
    let next = slot_best g.S.Score.scale _ _ _ _ c.loop-to.to c.args.next.now _ (Some c.in-Some.rest) c.requires.next (omega arith) c.index-next-to.is c.in-Some.is in
    let sum = c.plus.ensures ∙ ap (λ e. g.S.Score.scale.add e c.in-Some.rest) c.score-score.ensures.is in
    let less = sym (c.le.ensures ∙ g.met.S.Score.ordered c.args.best c.plus.result ∙ ap (g.S.Score.scale.at_most c.args.best) sum) ∙ c.if-le.false in
    (omega (arith, ints), grind (arith, ints), under_next g.met.S.Score.lawful _ sp _ _ _ _ _ c.loop-to.to _ _ _ (omega (arith, ints)) next less c.loop-output.invariant.2)

pub loop-to-preserved : goal.loop-to-preserved
loop-to-preserved g c =
    let sp = (g.met.F.Fleet.sound c.args.self.now.fleet.now).each c.args.self.now.unit in
    let all = c.requires.next.long in
    let near : SoundArc (Some c.in-Some-arc.range) = subst SoundArc (sym c.in-Some-arc.ensures) (sp.arcs c.args.period c.args.from c.loop-to.to) in
    let next = slot_best g.S.Score.scale _ _ _ _ c.loop-to.to c.args.next.now _ (Some c.in-Some.rest) c.requires.next (omega arith) c.index-next-to.is c.in-Some.is in
    elim c.loop-output-test.branch [
      | else-loop-output-test w ↦ let left = w.loop-output-test.false in absurd (grind (arith, ints))
      | then-loop-output-test+else-le+else-output-output-end w ↦
          let sum = w.plus.ensures ∙ ap (λ e. g.S.Score.scale.add e c.in-Some.rest) w.score-score.ensures.is in
          let less = sym (w.le.ensures ∙ g.met.S.Score.ordered c.args.best w.plus.result ∙ ap (g.S.Score.scale.at_most c.args.best) sum) ∙ w.if-le.false in
          let under = under_next g.met.S.Score.lawful _ sp _ _ _ _ _ c.loop-to.to _ (c.in-Some-arc.range.hi +ℤ pos 1) _ (grind (arith, ints)) next less c.loop-output.invariant.2 in
          below_next g.met.S.Score.lawful _ sp _ _ _ _ _ c.loop-to.to c.in-Some-arc.range _ (omega (arith, ints)) c.in-Some-arc.ensures under c.loop-to.invariant
    ]

pub unreachable-requires : goal.unreachable-requires
unreachable-requires g c =
    let sp = (g.met.F.Fleet.sound c.args.self.now.fleet.now).each c.args.self.now.unit in
    let all = c.requires.next.long in
    (step_none g.met.S.Score.lawful _ sp _ _ _ _ _ c.loop-to.to (omega arith) c.requires.within c.requires.best c.loop-to.invariant)

pub returns : goal.returns
returns g c =
    let sp = (g.met.F.Fleet.sound c.args.self.now.fleet.now).each c.args.self.now.unit in
    let all = c.requires.next.long in
    let near : SoundArc (Some c.in-Some-arc.range) = subst SoundArc (sym c.in-Some-arc.ensures) (sp.arcs c.args.period c.args.from c.loop-to.to) in
    let next = slot_best g.S.Score.scale _ _ _ _ c.loop-to.to c.args.next.now _ (Some c.in-Some.rest) c.requires.next (omega arith) c.index-next-to.is c.in-Some.is in
    let sum = c.plus.ensures ∙ ap (λ e. g.S.Score.scale.add e c.in-Some.rest) c.score-score.ensures.is in
    let more = sym (c.le.ensures ∙ g.met.S.Score.ordered c.args.best c.plus.result ∙ ap (g.S.Score.scale.at_most c.args.best) sum) ∙ c.if-le.true in
    let at : to_z w32 (of_z w32 c.in-Some-arc.range.lo) ≤ℤ c.loop-output.output = omega (arith, ints) in
    let low : c.in-Some-arc.range.lo ≤ℤ c.loop-output.output = omega (arith, ints) in
    let high : c.loop-output.output ≤ℤ c.in-Some-arc.range.hi = omega (arith, ints) in
    let out = subst (λ (o : Option Range). holds o c.loop-output.output ≡ true) c.in-Some-arc.ensures (among_from c.in-Some-arc.range c.loop-output.output low high) in
    step_found g.met.S.Score.lawful _ sp _ _ _ _ _ c.loop-to.to _ _ c.requires.best next (rw (sym c.loop-output.output-is) at out) more c.loop-to.invariant c.loop-output.invariant.2
