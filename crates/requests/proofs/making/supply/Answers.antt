use Rattle.std.proofs.Common.{rules}
use Rattle.requests.specs.Requests.{supplied}
use Rattle.requests.proofs.Lending.{supply_by, said}
use Rattle.requests.proofs.making.supply.Goals as goal

pub returns : goal.returns
returns g c =
    let is = said supplied _ c.supply.result c.map.result (λ x y h. search rules) c.map.ensures.cases in
    supply_by g.F.Fleet.meaning c.args.docket.now c.args.docket.now c.args.unit c.args.fewer c.args.more c.min-fewer.result c.min-more.result c.args.fewer_table.now c.supply.new.fewer c.args.more_table.now c.supply.new.more c.supply.result c.map.result c.min-fewer.ensures c.min-more.ensures is c.supply.ensures.goes c.supply.ensures.fewer c.supply.ensures.more
