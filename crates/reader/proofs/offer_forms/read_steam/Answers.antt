use Rattle.std.proofs.Common.{ap, ◌∙◌}
use Rattle.words.specs.Answers.{answer_by}
use Rattle.words.specs.Seen.{state_of}
use Rattle.reader.specs.declared.names.FormName.TheVariants as name
use Rattle.reader.specs.Forms.{line_of}
use Rattle.reader.specs.OfferParts.{steam_parts}
use Rattle.reader.proofs.Fairness.{steam_fair}
use Rattle.reader.proofs.OfferForms.{offer_read}
use Rattle.reader.proofs.offer_forms.read_steam.Goals as goal

pub returns : goal.returns
returns c =
    let o = c.offer.ensures in
    ap (λ r. answer_by line_of r c.end.new.self) c.checked.ensures
    ∙ offer_read name.Steam (steam_parts c.in_ok-parts.parts) (state_of c.args.words.now) _ c.end.new.self _ c.offer.result c.in_ok-parts.ensures c.in_ok-end.ensures (steam_fair (steam_parts c.in_ok-parts.parts)) o
