use Rattle.std.proofs.Common.{refl}
use Rattle.reader.specs.declared.numbers.RampNumbers.{RampNumbers}
use Rattle.reader.proofs.Padded.{ramp_test, ramp_line}
use Rattle.reader.proofs.offer_parts.RampParts.offer.Goals as goal

pub returns-in_err-ramp : goal.returns-in_err-ramp
returns-in_err-ramp c =
    let f = rw c.as_slice.ensures.value at c.in_ok-steps.ensures in
    let n : RampNumbers = record { run = c.args.self.now.run; rate = c.args.self.now.rate; start = c.args.self.now.start; idle = c.args.self.now.idle; steps = c.in_ok-steps.steps; was = c.args.self.now.was } in
    rw c.from_residual-in_err-ramp.ensures (ramp_test c.args.self.now.steps.items c.in_ok-steps.steps f.0 f.1 n _ refl c.in_err-ramp.ensures)

pub returns : goal.returns
returns c =
    let f = rw c.as_slice.ensures.value at c.in_ok-steps.ensures in
    let g = c.in_ok-ramp.ensures in
    let n : RampNumbers = record { run = c.args.self.now.run; rate = c.args.self.now.rate; start = c.args.self.now.start; idle = c.args.self.now.idle; steps = c.in_ok-steps.steps; was = c.args.self.now.was } in (
      ramp_test c.args.self.now.steps.items c.in_ok-steps.steps f.0 f.1 n _ refl g.0,
      ramp_line c.args.self.now.steps.items c.in_ok-steps.steps f.0 f.1 c.in_ok-ramp.ramp.numbers n g.1 refl,
    )
