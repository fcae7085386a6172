use Rattle.std.proofs.Common.{refl}
use Rattle.std.proofs.Output.{has_written_append, has_written_of_eq}
use Rattle.replies.proofs.Lists.{pays_more}
use Rattle.replies.proofs.texts.put_pays.Goals as goal

pub loop-unit-preserved : goal.loop-unit-preserved
loop-unit-preserved g c p =
    let took = g.W.Write.write_str_gives in
    let so = c.loop-unit.invariant p in
    let h = c.in_ok-write.ensures.writes so.plain refl in
    has_written_of_eq took _ _ _ _ (pays_more c.args.pays.now c.loop-unit.unit-counter c.loop-unit-test.true) (has_written_append took _ _ _ _ _ so h)
