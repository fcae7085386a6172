use Rattle.std.proofs.Common.{◌≡◌, take, subst}
use Rattle.std.specs.Prelude.{IfSome, OnOk, string_bytes}
use Rattle.std.specs.Io.KnownBytes.{Appends}
use Rattle.day.specs.Settling.{Settled}
use Rattle.day.proofs.Enough.{taken, written}
use Rattle.day.proofs.reading.answer_file.Goals as goal

pub returns : goal.returns
returns g c =
    let remaining = g.R.Read.remaining in
    let contents = g.W.Write.contents in
    let taken_all = taken (remaining c.take.result.inner) c.take.result.limit c.new-file.result.items c.read_to_end.new.buf.items c.take.ensures.limit c.new-file.ensures.items c.in_ok-read_to_end.ensures.bytes in
    let all = subst (λ r. IfSome (remaining r) (λ file. c.read_to_end.new.buf.items ≡ take 65537 file)) c.take.ensures.inner taken_all in
    let text = string_bytes c.in_ok-text.text in
    let settled = subst (λ f. Settled f text) c.deref.ensures.value c.in_ok-text.ensures.text in
    let wrote = subst (λ b. OnOk c.write_all.result (Appends (contents c.args.output.now) (contents c.write_all.new.self) b)) c.as_bytes.ensures.value c.write_all.ensures.bytes in
    written c.write_all.result (remaining c.args.input) (contents c.args.output.now) (contents c.write_all.new.self) c.read_to_end.new.buf.items text all settled wrote
