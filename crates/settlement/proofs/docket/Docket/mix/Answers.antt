use Rattle.std.proofs.Common.{◌-◌, ◌<◌, ◌≤◌, ◌⊎◌, sym, refl, ◌∙◌, arith, rules}
use Rattle.terms.specs.declared.decline.Cause.TheVariants.{MixBeforeRun, MixWeight}
use Rattle.settlement.specs.Ledger.{mix}
use Rattle.settlement.specs.Sheets.{MixNoted}
use Rattle.settlement.specs.Follow.{GoesOn}
use Rattle.settlement.specs.Calls.{Enters}
use Rattle.terms.proofs.Says.{says}
use Rattle.settlement.proofs.Finding.{some_of, none_of}
use Rattle.settlement.proofs.UnitCalls.{at_passed, mix_21_24, mix_26_27, mix_28, mix_29, mix_taken}
use Rattle.settlement.proofs.docket.Docket.mix.Goals as goal

pub returns-in_err-prices-clause-goes : goal.returns-in_err-prices-clause-goes
returns-in_err-prices-clause-goes g c =
    let d = c.args.self.now in
    let mean = g.F.Fleet.meaning in
    let this = mix c.args.unit c.args.weight c.args.schedule.now in
    let e = c.in_err-prices.field-0.0 in
    at_passed (λ r. GoesOn mean d d this (Enters this r)) c.from_residual.result e c.from_residual.ensures.1 (mix_21_24 mean d (g.met.F.Fleet.sound d.fleet) c.args.unit c.args.schedule.now c.args.weight e c.in_err-prices.ensures)

pub returns-in_err-counted-clause-goes : goal.returns-in_err-counted-clause-goes
returns-in_err-counted-clause-goes g c =
    let d = c.args.self.now in
    let mean = g.F.Fleet.meaning in
    let this = mix c.args.unit c.args.weight c.args.schedule.now in
    let e = c.in_err-counted.field-0.0 in
    at_passed (λ r. GoesOn mean d d this (Enters this r)) c.from_residual-in_err-counted.result e c.from_residual-in_err-counted.ensures.1 (mix_26_27 mean d (g.met.F.Fleet.sound d.fleet) c.args.unit c.args.schedule.now c.args.weight c.in_ok-prices.prices c.in_ok-prices.ensures e c.in_err-counted.ensures)

pub returns-in_err-standing-clause-goes : goal.returns-in_err-standing-clause-goes
returns-in_err-standing-clause-goes g c =
    let d = c.args.self.now in
    let mean = g.F.Fleet.meaning in
    let this = mix c.args.unit c.args.weight c.args.schedule.now in
    let e = c.in_err-standing.field-0.0 in
    let none = none_of c.standing.result c.at.result c.ok_or.result e c.ok_or.ensures.value c.in_err-standing.was in
    at_passed (λ r. GoesOn mean d d this (Enters this r)) c.from_residual-in_err-standing.result e c.from_residual-in_err-standing.ensures.1 (mix_28 mean d (g.met.F.Fleet.sound d.fleet) c.args.unit c.args.schedule.now c.args.weight c.in_ok-prices.prices c.in_ok-prices.ensures c.in_ok-counted.counted c.in_ok-counted.ensures e (sym c.standing.ensures ∙ none.0) (says MixBeforeRun c.args.unit e (none.1 ∙ c.at.ensures)))

pub returns-then-not-contains-clause-goes : goal.returns-then-not-contains-clause-goes
returns-then-not-contains-clause-goes g c =
    let d = c.args.self.now in
    let s = c.in_ok-standing.standing in
    let bad : (c.args.weight < 1) ⊎ (d.weight - s.mixed < c.args.weight) = search rules in
    mix_29 g.F.Fleet.meaning d (g.met.F.Fleet.sound d.fleet) c.args.unit c.args.schedule.now c.args.weight c.in_ok-prices.prices c.in_ok-prices.ensures c.in_ok-counted.counted c.in_ok-counted.ensures s (sym c.standing.ensures ∙ some_of c.standing.result c.at.result c.ok_or.result s c.ok_or.ensures.value c.in_ok-standing.was) c.at-then-not-contains.result bad (says MixWeight c.args.unit c.at-then-not-contains.result c.at-then-not-contains.ensures)

pub returns-clause-goes : goal.returns-clause-goes
returns-clause-goes g c =
    let d = c.args.self.now in
    let sound = g.met.F.Fleet.sound d.fleet in
    let k = c.in_ok-counted.counted in
    let fine = c.in_ok-counted.ensures in
    let s = c.in_ok-standing.standing in
    let below = c.in_ok-prices.ensures.1 in
    let few = sound.few in
    let long = d.sheet.long in
    let some : 1 ≤ c.args.weight = search rules in
    let left : c.args.weight ≤ d.weight - s.mixed = search rules in
    let noted : MixNoted c.args.unit s c.args.weight k.gain c.args.schedule.now d.sheet c.note_mix.new.self = let h = c.note_mix.ensures in rw fine.3 at h in
    mix_taken g.F.Fleet.meaning d sound c.args.unit c.args.schedule.now c.args.weight c.in_ok-prices.prices c.in_ok-prices.ensures k fine s (sym c.standing.ensures ∙ some_of c.standing.result c.at.result c.ok_or.result s c.ok_or.ensures.value c.in_ok-standing.was) _ refl refl refl some left noted (omega (arith, below, few, long))
