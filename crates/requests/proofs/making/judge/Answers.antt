use Rattle.std.proofs.Common.{rules}
use Rattle.requests.specs.declared.request.Answer.TheVariants.{Judged}
use Rattle.requests.proofs.Lending.{judge_by, said}
use Rattle.requests.proofs.making.judge.Goals as goal

pub returns : goal.returns
returns g c =
    let is = said Judged _ c.judge.result c.map.result (λ x y h. search rules) c.map.ensures.cases in
    judge_by g.F.Fleet.meaning c.args.docket.now c.args.docket.now c.args.room c.min-room.result c.args.pays.now c.judge.new.pays c.judge.result c.map.result c.min-room.ensures is c.judge.ensures.goes
