use Rattle.std.proofs.Common.{◌≡◌, ◌<◌, length, ◌+◌, ◌++◌, string_bytes, cond, sym, ap, ◌∙◌, subst, arith, rules}
use Rattle.std.proofs.lemmas.Bool.{le-ltb}
use Rattle.terms.specs.declared.decline.Cause.TheVariants.{FileTooLong}
use Rattle.replies.specs.Texts.{no_text, reply_text}
use Rattle.day.specs.Cutting.{lines_of}
use Rattle.day.specs.Said.{nothing}
use Rattle.day.specs.Settling.{TextOfLines}
use Rattle.day.proofs.Verdicts.{verdict_law}
use Rattle.day.proofs.OneText.{one_text}
use Rattle.day.proofs.LineLaws.{lines_law}
use Rattle.day.proofs.Runs.{session_law}
use Rattle.day.proofs.EachLine.{each_line_law}
use Rattle.day.proofs.Lines.{Going, going_more, going_done}
use Rattle.day.proofs.settling.settle.Goals as goal

pub loop-rest-preserved : goal.loop-rest-preserved
loop-rest-preserved c =
    let i = c.loop-rest.invariant in
    let file = c.args.file.now in
    let rest = c.loop-rest.rest.now in
    let reply = c.answer-next.result.1 in
    let text = string_bytes c.loop-rest.text in
    let some : 0 < length rest = search rules in
    let said : string_bytes c.in_ok-said.said ≡ reply_text reply = c.in_ok-said.ensures.ok in
    let bytes : string_bytes c.push_str.new.self ≡ text ++ reply_text reply = c.in_ok-push_str.ensures.bytes ∙ ap (λ t. text ++ t) (c.deref.ensures ∙ said) in
    let g = going_more file c.loop-rest.session c.answer-next.result.0 rest c.cut.result.0.now c.cut.result.1.now c.loop-rest.line text reply i.0 some c.cut.ensures.line c.cut.ensures.rest c.answer-next.ensures in
    let shorter = c.cut.ensures.shorter some in
    let fits = i.1 in
    (subst (Going file c.answer-next.result.0 c.cut.result.1.now (c.loop-rest.line + 1)) (sym bytes) g, omega arith, i.2)

pub returns : goal.returns
returns c =
    let i = c.loop-rest.invariant in
    let few = i.2 in
    let file = c.args.file.now in
    let none : length c.loop-rest.rest.now ≡ 0 = search rules in
    let text = string_bytes c.loop-rest.text in
    record {
      verdicts = verdict_law;
      session = session_law;
      each = each_line_law;
      one = one_text;
      lines = lines_law;
      text = subst (λ b. cond b (text ≡ no_text (record { cause = FileTooLong; place = 1 }) 1) (TextOfLines (lines_of file) nothing 1 text)) (sym (le-ltb 65536 (length file) few))
          (going_done file c.loop-rest.session c.loop-rest.rest.now c.loop-rest.line text i.0 none);
    }
