use Rattle.std.proofs.Common.{rules}
use Rattle.requests.specs.declared.request.Answer.TheVariants.{Shown}
use Rattle.requests.proofs.Lending.{show_by, said}
use Rattle.requests.proofs.making.show.Goals as goal

pub returns : goal.returns
returns g c =
    let is = said (λ _. Shown) _ c.show.result c.map.result (λ x y h. search rules) c.map.ensures.cases in
    show_by g.F.Fleet.meaning c.args.docket.now c.args.docket.now c.args.unit c.args.slots c.args.room c.min-slots.result c.min-room.result c.args.table.now c.show.new.table c.args.buffer.now c.show.new.out c.show.result c.map.result c.min-slots.ensures c.min-room.ensures is c.show.ensures.goes c.show.ensures.table
