use Rattle.std.proofs.Common.{ap, ◌∙◌}
use Rattle.words.specs.Answers.{answer_by}
use Rattle.words.specs.Seen.{state_of}
use Rattle.reader.specs.declared.names.FormName.TheVariants as name
use Rattle.reader.specs.Forms.{line_of}
use Rattle.reader.proofs.Fairness.{buyer_fair}
use Rattle.reader.proofs.OfferForms.{offer_read}
use Rattle.reader.proofs.offer_forms.read_buyer.Goals as goal

pub returns : goal.returns
returns c =
    let o = rw c.as_slice.ensures.value at c.buyer_of.ensures in
    ap (λ r. answer_by line_of r c.end.new.self) c.checked.ensures
    ∙ offer_read name.Buyer (c.in_ok-steps.steps.items) (state_of c.args.words.now) _ c.end.new.self _ c.buyer_of.result c.in_ok-steps.ensures c.in_ok-end.ensures (buyer_fair (c.in_ok-steps.steps.items)) o
