use Rattle.std.proofs.Common.{refl, pos}
use Rattle.std.proofs.Output.{has_written_append, has_written_of_eq}
use Rattle.terms.specs.declared.entry.Entry.{Entry}
use Rattle.replies.proofs.Lists.{entries_more}
use Rattle.replies.proofs.texts.put_entries.Goals as goal

pub loop-entry-preserved : goal.loop-entry-preserved
loop-entry-preserved g c p =
    let took = g.W.Write.write_str_gives in
    let so = c.loop-entry.invariant p in
    let h = c.in_ok-write.ensures.writes so.plain refl in
    let none : Entry = record { state = 0; output = pos 0 } in
    has_written_of_eq took _ _ _ _ (entries_more c.args.entries.now c.loop-entry.entry-index none c.loop-entry-test.true) (has_written_append took _ _ _ _ _ so h)
