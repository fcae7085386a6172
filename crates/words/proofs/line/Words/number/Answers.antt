use Rattle.std.proofs.Common.{sym, ap, ◌∙◌, w64, SFits, rules}
use Rattle.std.specs.Option.{ok_or}
use Rattle.std.proofs.lemmas.Int.{to_z-of_z}
use Rattle.terms.specs.Declines.{number_of}
use Rattle.terms.specs.declared.decline.Decline.{Decline}
use Rattle.words.specs.Grammar.{no, within, number_at}
use Rattle.words.specs.Answers.{answer_of}
use Rattle.words.specs.Seen.{kind_of, state_of}
use Rattle.words.proofs.Numbers.{tested, by_kind}
use Rattle.words.proofs.line.Words.number.Goals as goal

pub returns-in-Bracket : goal.returns-in-Bracket
returns-in-Bracket c =
    let g = c.in-Some.ensures in
    let w = c.in-Some.found in
    let s = state_of c.args.self.now in
    ap (λ (d : Decline). no (number_of d.cause) d.place) c.at-in-Bracket.ensures
    ∙ ap (λ j. number_at c.args.range.lo c.args.range.hi s w.place (kind_of j)) (sym c.in-Bracket.is)
    ∙ by_kind c.args.range.lo c.args.range.hi s w.word _ w.place g.word g.kind

pub returns-in-Name : goal.returns-in-Name
returns-in-Name c =
    let g = c.in-Some.ensures in
    let w = c.in-Some.found in
    let s = state_of c.args.self.now in
    ap (λ (d : Decline). no (number_of d.cause) d.place) c.at-in-Name.ensures
    ∙ ap (λ j. number_at c.args.range.lo c.args.range.hi s w.place (kind_of j)) (sym c.in-Name.is)
    ∙ by_kind c.args.range.lo c.args.range.hi s w.word _ w.place g.word g.kind

pub returns-in-Numeral : goal.returns-in-Numeral
returns-in-Numeral c =
    let g = c.in-Some.ensures in
    let w = c.in-Some.found in
    let s = state_of c.args.self.now in
    let z = c.in-Numeral.value in
    let f : SFits w64 z = search rules in
    let r = rw (to_z-of_z w64 z f) at c.only.ensures in
    ap (λ a. answer_of a c.next.new.self) (c.ok_or.ensures.value ∙ (λ i. ok_or (r i) (c.at-in-Numeral.ensures i)))
    ∙ tested z w.place s c.next.new.self (within c.args.range.lo c.args.range.hi z) g.left
    ∙ ap (λ j. number_at c.args.range.lo c.args.range.hi s w.place (kind_of j)) (sym c.in-Numeral.is)
    ∙ by_kind c.args.range.lo c.args.range.hi s w.word _ w.place g.word g.kind
