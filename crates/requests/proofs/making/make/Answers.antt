use Rattle.std.proofs.Common.{refl, rules}
use Rattle.requests.specs.declared.request.Answer.TheVariants.{Entered}
use Rattle.requests.proofs.Lending.{said}
use Rattle.requests.proofs.making.make.Goals.{in-Need, in-Price, in-Run, in-Mix, in-Supply, in-Show, in-Judge}
use Rattle.requests.proofs.making.make.Goals as goal

pub returns : goal.returns
returns g c =
    let k = c.match-request.auto in
    record {
      goes =
          elim c.match-request.branch [
            | in-Need w ↦ rw (w.in-Need.is, w.docket-is, w.gains-is, w.fewer_table-is, w.more_table-is, w.buffer-is, w.pays-is, w.result-is) (λ m T W cs f. let h = w.need.ensures.goes m T W cs f in (h.0, ((w.need.result, h.1, said (λ _. Entered) _ w.need.result w.map.result (λ x y k. search rules) w.map.ensures.cases), refl)))
            | in-Price w ↦ rw (w.in-Price.is, w.docket-is, w.gains-is, w.fewer_table-is, w.more_table-is, w.buffer-is, w.pays-is, w.result-is) (λ m T W cs f. let h = w.price.ensures.goes m T W cs f in (h.0, ((w.price.result, h.1, said (λ _. Entered) _ w.price.result w.map-in-Price.result (λ x y k. search rules) w.map-in-Price.ensures.cases), refl)))
            | in-Run w ↦ rw (w.in-Run.is, w.docket-is, w.gains-is, w.fewer_table-is, w.more_table-is, w.buffer-is, w.pays-is, w.result-is) (λ m T W cs f. let h = w.run.ensures.goes m T W cs f in (h.0, (h.1, refl)))
            | in-Mix w ↦ rw (w.in-Mix.is, w.docket-is, w.gains-is, w.fewer_table-is, w.more_table-is, w.buffer-is, w.pays-is, w.result-is) (λ m T W cs f. let h = w.mix.ensures.goes m T W cs f in (h.0, ((w.mix.result, h.1, said (λ _. Entered) _ w.mix.result w.map-in-Mix.result (λ x y k. search rules) w.map-in-Mix.ensures.cases), refl)))
            | in-Supply w ↦ rw (w.in-Supply.is, w.docket-is, w.gains-is, w.fewer_table-is, w.more_table-is, w.buffer-is, w.pays-is, w.result-is) (λ m T W cs f. let h = w.supply.ensures m T W cs f in (h.0, (h.1, refl)))
            | in-Show w ↦ rw (w.in-Show.is, w.docket-is, w.gains-is, w.fewer_table-is, w.more_table-is, w.buffer-is, w.pays-is, w.result-is) (λ m T W cs f. let h = w.show.ensures m T W cs f in (h.0, (h.1, refl)))
            | in-Judge w ↦ rw (w.in-Judge.is, w.docket-is, w.gains-is, w.fewer_table-is, w.more_table-is, w.buffer-is, w.pays-is, w.result-is) (λ m T W cs f. let h = w.judge.ensures m T W cs f in (h.0, (h.1, refl)))
          ];
      fleet =
          elim c.match-request.branch [
            | in-Need w ↦ rw w.docket-is w.need.ensures.fleet
            | in-Price w ↦ rw w.docket-is w.price.ensures.fleet
            | in-Run w ↦ rw w.docket-is w.run.ensures.fleet
            | in-Mix w ↦ rw w.docket-is w.mix.ensures.fleet
            | in-Supply w ↦ rw w.docket-is refl
            | in-Show w ↦ rw w.docket-is refl
            | in-Judge w ↦ rw w.docket-is refl
          ];
      long = record { gains = k.gains; fewer = k.fewer_table; more = k.more_table; schedule = k.buffer; pays = k.pays };
    }
