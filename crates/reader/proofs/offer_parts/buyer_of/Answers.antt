use Rattle.reader.proofs.Padded.{buyer_test, buyer_line}
use Rattle.reader.proofs.offer_parts.buyer_of.Goals as goal

pub returns-in_err-buyer : goal.returns-in_err-buyer
returns-in_err-buyer c =
    let f = c.in_ok-steps.ensures in
    rw c.from_residual-in_err-buyer.ensures (buyer_test c.args.steps.now c.in_ok-steps.steps f.0 f.1 _ c.in_err-buyer.ensures)

pub returns : goal.returns
returns c =
    let f = c.in_ok-steps.ensures in
    let g = c.in_ok-buyer.ensures in
    (buyer_test c.args.steps.now c.in_ok-steps.steps f.0 f.1 _ g.0, buyer_line c.args.steps.now c.in_ok-steps.steps f.0 f.1 _ g.1)
