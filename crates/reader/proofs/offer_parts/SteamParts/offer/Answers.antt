use Rattle.std.proofs.Common.{refl}
use Rattle.reader.specs.declared.numbers.SteamNumbers.{SteamNumbers}
use Rattle.reader.proofs.Padded.{steam_test, steam_line}
use Rattle.reader.proofs.offer_parts.SteamParts.offer.Goals as goal

pub returns-in_err-steam : goal.returns-in_err-steam
returns-in_err-steam c =
    let f = rw c.as_slice.ensures.value at c.in_ok-steps.ensures in
    let n : SteamNumbers = record { run = c.args.self.now.run; rest = c.args.self.now.rest; start = c.args.self.now.start; idle = c.args.self.now.idle; steps = c.in_ok-steps.steps; was = c.args.self.now.was } in
    rw c.from_residual-in_err-steam.ensures (steam_test c.args.self.now.steps.items c.in_ok-steps.steps f.0 f.1 n _ refl c.in_err-steam.ensures)

pub returns : goal.returns
returns c =
    let f = rw c.as_slice.ensures.value at c.in_ok-steps.ensures in
    let g = c.in_ok-steam.ensures in
    let n : SteamNumbers = record { run = c.args.self.now.run; rest = c.args.self.now.rest; start = c.args.self.now.start; idle = c.args.self.now.idle; steps = c.in_ok-steps.steps; was = c.args.self.now.was } in (
      steam_test c.args.self.now.steps.items c.in_ok-steps.steps f.0 f.1 n _ refl g.0,
      steam_line c.args.self.now.steps.items c.in_ok-steps.steps f.0 f.1 c.in_ok-steam.steam.numbers n g.1 refl,
    )
