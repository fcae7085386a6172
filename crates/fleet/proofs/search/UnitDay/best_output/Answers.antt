use Rattle.std.proofs.Common.{pos, ◌+ℤ◌, ap, ◌∙◌, arith}
use Rattle.std.proofs.lemmas.Int.{ints}
use Rattle.fleet.proofs.Outputs.{tried_more, tried_all}
use Rattle.fleet.proofs.Steps.{sum_exact}
use Rattle.fleet.proofs.search.UnitDay.best_output.Goals as goal

pub loop-output-preserved : goal.loop-output-preserved
loop-output-preserved g c =
    let near = c.requires.sound in
    (omega (arith, ints), grind (arith, ints), rw c.better-best.ensures (tried_more g.met.S.Score.lawful _ _ _ _ _ _ c.loop-output.invariant.0 (omega (arith, ints)) (c.plus.ensures ∙ ap (λ e. g.S.Score.scale.add e c.args.rest) c.score-score.ensures.is) c.loop-output.invariant.2))

pub returns-2 : goal.returns-2
returns-2 g c =
    let near = c.requires.sound in
    let all = tried_more g.met.S.Score.lawful _ _ _ (c.args.range.hi +ℤ pos 1) _ _ c.loop-output.invariant.0 (grind (arith, ints)) (c.plus.ensures ∙ ap (λ e. g.S.Score.scale.add e c.args.rest) c.score-score.ensures.is) c.loop-output.invariant.2 in
    rw c.better-best.ensures (tried_all g.met.S.Score.lawful _ c.args.range _ _ _ (omega (arith, ints)) (omega (arith, ints)) all)

pub plus-requires : goal.plus-requires
plus-requires g c = sum_exact g.met.S.Score.lawful g.met.S.Score.adds c.score-score.result c.args.rest c.score-score.ensures.fits c.requires.summed
