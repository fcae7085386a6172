use Rattle.std.proofs.Common.{◌∙◌, arith}
use Rattle.fleet.proofs.RowFacts.{padded_own, padded_unused, padded_near, row_fine}
use Rattle.fleet.proofs.rows.Row.new.Goals as goal

pub invariant_of-result : goal.invariant_of-result
invariant_of-result g c =
    let n = c.count-periods.result in
    let row = c.args.numbers.now in
    let own = padded_own n c.padded-numbers.result row c.if-numbers-periods.false c.padded-numbers.ensures in
    record {
      short = omega (arith, c.count-periods.ensures, c.args.periods.few);
      unused = padded_unused n c.padded-numbers.result row c.if-numbers-periods.false c.padded-numbers.ensures;
      bounded = padded_near g.row.LIMIT n c.padded-numbers.result row c.first_beyond.result own c.if-numbers-periods.false c.first_beyond.ensures c.in_default.is;
    }

pub returns : goal.returns
returns g c =
    let fine = row_fine c.args.periods.count g.row.LIMIT c.args.numbers.now c.first_beyond.result (c.if-numbers-periods.false ∙ c.count-periods.ensures) c.first_beyond.ensures c.in_default.is in
    rw fine (record { long = c.count-periods.ensures; numbers = padded_own c.count-periods.result c.padded-numbers.result c.args.numbers.now c.if-numbers-periods.false c.padded-numbers.ensures })
