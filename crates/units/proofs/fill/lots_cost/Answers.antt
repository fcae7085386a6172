use Rattle.std.proofs.Common.{◌+ℤ◌, sym, ◌∙◌, subst, arith, w32, SFits}
use Rattle.std.proofs.lemmas.Int.{to_z-of_z}
use Rattle.terms.specs.Numbers.{Near}
use Rattle.reader.specs.Steps.{no_step}
use Rattle.units.proofs.Fills.{Filling, filled, filling_more, filling_fits, filling_end, fill_small, cheap, cheap_at}
use Rattle.units.proofs.fill.lots_cost.Goals as goal

pub part_cost-cost-requires-clause-price : goal.part_cost-cost-requires-clause-price
part_cost-cost-requires-clause-price c =
    let s = c.args.steps.now in
    let n = s.four in
    let t = c.loop-step-test.true in
    cheap_at s.places c.loop-step.step-index no_step (omega arith) (cheap s.places s.fair)

pub overflow_add-cost : goal.overflow_add-cost
overflow_add-cost c =
    let s = c.args.steps.now in
    let n = s.four in
    let t = c.loop-step-test.true in
    let inv = subst (Filling s.places c.args.lots c.loop-step.step-index c.loop-step.rest) c.loop-step.cost-is c.loop-step.invariant in
    let f = filling_more s.places c.args.lots c.loop-step.step-index c.loop-step.rest c.min-part.result c.loop-step.cost c.part_cost-cost.result no_step (omega arith) (cheap s.places s.fair) inv c.min-part.ensures c.part_cost-cost.ensures in
    let fr : SFits w32 c.part_cost-cost.result = record { sfits = c.part_cost-cost.type_inv } in
    let e = c.loop-step.cost-is in
    simp (to_z-of_z, e) (filling_fits _ _ _ _ _ c.requires f)

pub loop-step-preserved : goal.loop-step-preserved
loop-step-preserved c =
    let s = c.args.steps.now in
    let n = s.four in
    let t = c.loop-step-test.true in
    let inv = subst (Filling s.places c.args.lots c.loop-step.step-index c.loop-step.rest) c.loop-step.cost-is c.loop-step.invariant in
    let f = filling_more s.places c.args.lots c.loop-step.step-index c.loop-step.rest c.min-part.result c.loop-step.cost c.part_cost-cost.result no_step (omega arith) (cheap s.places s.fair) inv c.min-part.ensures c.part_cost-cost.ensures in
    let fr : SFits w32 c.part_cost-cost.result = record { sfits = c.part_cost-cost.type_inv } in
    let e = c.loop-step.cost-is in
    let all : SFits w32 (c.loop-step.cost +ℤ c.part_cost-cost.result) = filling_fits _ _ _ _ _ c.requires f in
    simp (to_z-of_z, e) f

pub returns : goal.returns
returns c =
    let s = c.args.steps.now in
    let n = s.four in
    let t = c.loop-step-test.false in
    let inv = subst (Filling s.places c.args.lots c.loop-step.step-index c.loop-step.rest) c.loop-step.cost-is c.loop-step.invariant in
    let is = c.loop-step.cost-is ∙ filling_end s.places c.args.lots c.loop-step.step-index c.loop-step.rest c.loop-step.cost (omega arith) inv in
    record { order = filled; is = is; near = subst (Near 250000000) (sym is) (fill_small s.places c.args.lots c.requires s.fair) }
