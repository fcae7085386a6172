use Rattle.std.proofs.Common.{◌+◌, Some, sym, ap, ◌∙◌}
use Rattle.words.specs.Grammar.{head, tail}
use Rattle.words.specs.Seen.{seen}
use Rattle.words.proofs.Cuts.{cut}
use Rattle.words.proofs.line.Words.next.Goals as goal

pub returns-clause-word : goal.returns-clause-word
returns-clause-word c =
    let s = cut c.args.self.now.place c.args.self.now.rest.now _ _ c.blanks_in-blanks.ensures.value c.blanks_in-blanks.ensures.within c.word_length-length.ensures.value c.word_length-length.ensures.within in
    ap (λ t. Some (record { text = t; place = c.args.self.now.place + c.blanks_in-blanks.result })) c.in_ok-word.ensures.text ∙ sym (ap head (s.some c.in_ok-word.ensures.some))

pub returns-clause-left : goal.returns-clause-left
returns-clause-left c =
    let s = cut c.args.self.now.place c.args.self.now.rest.now _ _ c.blanks_in-blanks.ensures.value c.blanks_in-blanks.ensures.within c.word_length-length.ensures.value c.word_length-length.ensures.within in
    λ i. record { left = sym (ap tail (s.some c.in_ok-word.ensures.some)) i; end = s.end i }

pub returns-in_err-word-clause-word : goal.returns-in_err-word-clause-word
returns-in_err-word-clause-word c =
    let s = cut c.args.self.now.place c.args.self.now.rest.now _ _ c.blanks_in-blanks.ensures.value c.blanks_in-blanks.ensures.within c.word_length-length.ensures.value c.word_length-length.ensures.within in
    ap seen c.from_residual.ensures ∙ sym (ap head (s.none c.in_err-word.ensures.none).0)

pub returns-in_err-word-clause-left : goal.returns-in_err-word-clause-left
returns-in_err-word-clause-left c =
    let s = cut c.args.self.now.place c.args.self.now.rest.now _ _ c.blanks_in-blanks.ensures.value c.blanks_in-blanks.ensures.within c.word_length-length.ensures.value c.word_length-length.ensures.within in
    let z = s.none c.in_err-word.ensures.none in
    λ i. record { left = (z.1 ∙ sym (ap tail z.0)) i; end = s.end i }
