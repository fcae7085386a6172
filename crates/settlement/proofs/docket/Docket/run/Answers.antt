use Rattle.std.proofs.Common.{length, get_or, None, refl, arith, w64, SFits, rules}
use Rattle.std.proofs.lemmas.Int.{to_z-of_z}
use Rattle.terms.specs.declared.decline.Cause.TheVariants.{RunStands}
use Rattle.terms.proofs.Bounds.{near_64}
use Rattle.fleet.specs.Rows.{prices_of, periods_of}
use Rattle.settlement.specs.Sheets.{RunNoted}
use Rattle.fleet.proofs.RowFacts.{row_priced}
use Rattle.fleet.proofs.GainBounds.{best_near}
use Rattle.settlement.specs.Ledger.{run}
use Rattle.settlement.specs.Follow.{GoesOn}
use Rattle.settlement.specs.Calls.{Enters}
use Rattle.terms.proofs.Says.{says}
use Rattle.settlement.proofs.UnitCalls.{at_passed, stood_is, not_stood, run_21_24, run_25, run_26_27, run_30, run_taken}
use Rattle.settlement.proofs.docket.Docket.run.Goals as goal

pub returns-in_err-prices-clause-goes : goal.returns-in_err-prices-clause-goes
returns-in_err-prices-clause-goes g c =
    let d = c.args.self.now in
    let mean = g.F.Fleet.meaning in
    let sound = g.met.F.Fleet.sound d.fleet in
    let es = c.args.schedule.now in
    let slots = length c.args.table.now in
    let e = c.in_err-prices.field-0.0 in
    at_passed (λ r. GoesOn mean d d (run c.args.unit es slots) (Enters (run c.args.unit es slots) r)) c.from_residual.result e c.from_residual.ensures.1 (run_21_24 mean d sound c.args.unit es slots e c.in_err-prices.ensures)

pub returns-then-is_some-clause-goes : goal.returns-then-is_some-clause-goes
returns-then-is_some-clause-goes g c =
    let d = c.args.self.now in
    let mean = g.F.Fleet.meaning in
    let sound = g.met.F.Fleet.sound d.fleet in
    let es = c.args.schedule.now in
    let slots = length c.args.table.now in
    let stood = stood_is c.standing.result (get_or d.sheet.units c.args.unit None) c.standing.ensures c.if-is_some.ensures in
    run_25 mean d sound c.args.unit es slots c.in_ok-prices.prices c.in_ok-prices.ensures c.at.result stood (says RunStands c.args.unit c.at.result c.at.ensures)

pub returns-in_err-counted-clause-goes : goal.returns-in_err-counted-clause-goes
returns-in_err-counted-clause-goes g c =
    let d = c.args.self.now in
    let mean = g.F.Fleet.meaning in
    let sound = g.met.F.Fleet.sound d.fleet in
    let es = c.args.schedule.now in
    let slots = length c.args.table.now in
    let e = c.in_err-counted.field-0.0 in
    let first = not_stood c.standing.result (get_or d.sheet.units c.args.unit None) c.standing.ensures c.if-is_some.ensures in
    at_passed (λ r. GoesOn mean d d (run c.args.unit es slots) (Enters (run c.args.unit es slots) r)) c.from_residual-in_err-counted.result e c.from_residual-in_err-counted.ensures.1 (run_26_27 mean d sound c.args.unit es slots c.in_ok-prices.prices c.in_ok-prices.ensures first e c.in_err-counted.ensures)

pub returns-in_err-best-clause-goes : goal.returns-in_err-best-clause-goes
returns-in_err-best-clause-goes g c =
    let d = c.args.self.now in
    let mean = g.F.Fleet.meaning in
    let sound = g.met.F.Fleet.sound d.fleet in
    let u = c.args.unit in
    let es = c.args.schedule.now in
    let old = c.args.table.now in
    let row = c.in_ok-prices.prices in
    let e = c.in_err-best.field-0.0 in
    let first = not_stood c.standing.result (get_or d.sheet.units u None) c.standing.ensures c.if-is_some.ensures in
    let found = c.in_err-best.ensures in
    at_passed (λ r. GoesOn mean d d (run u es (length old)) (Enters (run u es (length old)) r)) c.from_residual-in_err-best.result e c.from_residual-in_err-best.ensures.1 (run_30 mean d sound u es (length old) row c.in_ok-prices.ensures first c.in_ok-counted.counted c.in_ok-counted.ensures e found.best)

pub note_run-requires-clause-unit : goal.note_run-requires-clause-unit
note_run-requires-clause-unit g c =
    let below = c.in_ok-prices.ensures.1 in
    let few = (g.met.F.Fleet.sound c.args.self.now.fleet).few in
    omega (arith, below, few)

pub note_run-requires-clause-best : goal.note_run-requires-clause-best
note_run-requires-clause-best g c =
    let d = c.args.self.now in
    let sp = (g.met.F.Fleet.sound d.fleet).each c.args.unit in
    let p = (g.F.Fleet.meaning d.fleet).model c.args.unit in
    let row = c.in_ok-prices.prices in
    let b = c.in_ok-best.best in
    near_64 48000000000000 b (omega arith) (best_near p sp (periods_of row) (prices_of row) (row_priced row) b c.in_ok-best.ensures.best.1)

pub returns-clause-goes : goal.returns-clause-goes
returns-clause-goes g c =
    let d = c.args.self.now in
    let mean = g.F.Fleet.meaning in
    let sound = g.met.F.Fleet.sound d.fleet in
    let u = c.args.unit in
    let es = c.args.schedule.now in
    let old = c.args.table.now in
    let row = c.in_ok-prices.prices in
    let k = c.in_ok-counted.counted in
    let fine = c.in_ok-counted.ensures in
    let b = c.in_ok-best.best in
    let first = not_stood c.standing.result (get_or d.sheet.units u None) c.standing.ensures c.if-is_some.ensures in
    let found = c.in_ok-best.ensures in
    let below = c.in_ok-prices.ensures.1 in
    let few = sound.few in
    let long = d.sheet.long in
    let fb : SFits w64 b = search rules in
    let noted : RunNoted u k.gain b es d.sheet c.note_run.new.self = let h = c.note_run.ensures in rw (to_z-of_z w64 b fb, fine.3) at h in
    run_taken mean d sound u es (length old) row c.in_ok-prices.ensures first k fine _ b refl refl refl found.best.0 found.best.1 noted (omega (arith, below, few, long))
