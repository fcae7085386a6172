use Rattle.std.proofs.Common.{◌≡◌, get_or, None, ap, ◌∙◌, w64, SFits, to_z, of_z, rules}
use Rattle.std.proofs.lemmas.Int.{to_z-of_z}
use Rattle.std.proofs.lemmas.List.{get_or_default}
use Rattle.std.proofs.lemmas.Option.{same_Some}
use Rattle.settlement.specs.Weighing.{pay_at}
use Rattle.settlement.proofs.Finding.{pay_near, sum_more}
use Rattle.settlement.proofs.sheet.weighing.uplift.Goals as goal

pub loop-standing-preserved : goal.loop-standing-preserved
loop-standing-preserved c =
    let n = c.loop-standing.standing-index in
    let xs = c.args.standings.now in
    let sum = c.in_ok-uplift.uplift in
    let pay = c.in_ok-pay_of.field-0 in
    let fit_pay : SFits w64 pay = search rules in
    let fit_sum : SFits w64 sum = search rules in
    let item : c.standing-item.result ≡ get_or xs n None = c.standing-item.is ∙ get_or_default xs n _ None c.loop-standing-test.true in
    sum_more 96000000000000 n (λ u. pay_at (get_or xs u None)) (to_z w64 (of_z w64 pay)) (to_z w64 (of_z w64 sum))
    c.loop-standing.invariant.0
    c.loop-standing.invariant.1
    (pay_near (get_or xs n None))
    (to_z-of_z w64 pay fit_pay ∙ same_Some pay (pay_at c.standing-item.result) c.in_ok-pay_of.ensures ∙ ap pay_at item)
    (to_z-of_z w64 sum fit_sum ∙ c.in_ok-uplift.ensures.1)
