use Rattle.std.proofs.Common.{◌<◌, ◌≤◌, length, arith}
use Rattle.reader.proofs.StepLists.{few_lots, lots_more, lots_none}
use Rattle.reader.specs.Steps.{no_step}
use Rattle.reader.proofs.steps.Steps.lots.Goals as goal

pub overflow_add-lots : goal.overflow_add-lots
overflow_add-lots c =
    let s = c.args.self.now in
    let n = s.four in
    let t = c.loop-step-test.true in
    let l : c.loop-step.step-index < length s.places = omega arith in
    let f = few_lots s.places c.loop-step.step-index no_step l s.fair in
    let i = c.loop-step.invariant.1 in
    record { fits = omega arith }

pub loop-step-preserved : goal.loop-step-preserved
loop-step-preserved c =
    let s = c.args.self.now in
    let n = s.four in
    let t = c.loop-step-test.true in
    let l : c.loop-step.step-index < length s.places = omega arith in
    let f = few_lots s.places c.loop-step.step-index no_step l s.fair in
    let m = lots_more s.places c.loop-step.step-index no_step l in
    let i = c.loop-step.invariant.1 in
    let j = c.loop-step.invariant.0 in
    (omega arith, omega arith)

pub returns : goal.returns
returns c =
    let j = c.loop-step.invariant.0 in
    let n = c.args.self.now.four in
    let t = c.loop-step-test.false in
    let l : length c.args.self.now.places ≤ c.loop-step.step-index = omega arith in
    let z = lots_none c.args.self.now.places c.loop-step.step-index l in
    omega arith
