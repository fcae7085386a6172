use Rattle.std.proofs.Common.{rules}
use Rattle.requests.specs.declared.request.Answer.TheVariants.{Entered}
use Rattle.requests.proofs.Lending.{run_by, said}
use Rattle.requests.proofs.making.run.Goals as goal

pub returns-clause-goes : goal.returns-clause-goes
returns-clause-goes g c =
    let is = said (λ _. Entered) _ c.run.result c.map.result (λ x y h. search rules) c.map.ensures.cases in
    run_by g.F.Fleet.meaning c.args.docket.now c.run.new.self c.args.unit c.args.schedule.now c.args.slots c.min-slots.result c.args.table.now c.run.new.table c.run.result c.map.result c.min-slots.ensures is c.run.ensures.goes c.run.ensures.table
