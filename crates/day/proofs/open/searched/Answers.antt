use Rattle.std.proofs.Common.{length, replicate, refl}
use Rattle.day.proofs.Asks.{shows_written, shows_declined}
use Rattle.day.proofs.open.searched.Goals as goal

pub returns-in-Ok : goal.returns-in-Ok
returns-in-Ok c =
    let t = c.args.tables.now in
    shows_written c.args.docket.now c.args.unit (length t.gains) (replicate 48 c.default-schedule.result) c.show.new.out t.gains_whole refl c.show.auto.out c.in-Ok.ensures.goes

pub returns-in-Err : goal.returns-in-Err
returns-in-Err c =
    let t = c.args.tables.now in
    shows_declined c.args.docket.now c.args.unit (length t.gains) (replicate 48 c.default-schedule.result) c.show.new.out c.in-Err.decline t.gains_whole refl c.in-Err.ensures.goes
