use Rattle.std.proofs.Common.{ap, ◌∙◌}
use Rattle.words.specs.Answers.{answer_by}
use Rattle.words.specs.Seen.{state_of}
use Rattle.reader.specs.declared.names.FormName.TheVariants as name
use Rattle.reader.specs.Forms.{line_of}
use Rattle.reader.proofs.Fairness.{lake_fair}
use Rattle.reader.proofs.OfferForms.{offer_read}
use Rattle.reader.proofs.offer_forms.read_lake.Goals as goal

pub returns : goal.returns
returns c =
    let o = c.lake_of.ensures in
    ap (λ r. answer_by line_of r c.end.new.self) c.checked.ensures
    ∙ offer_read name.Lake (c.in_ok-numbers.numbers) (state_of c.args.words.now) _ c.end.new.self _ c.lake_of.result c.in_ok-numbers.ensures c.in_ok-end.ensures (lake_fair (c.in_ok-numbers.numbers)) o
