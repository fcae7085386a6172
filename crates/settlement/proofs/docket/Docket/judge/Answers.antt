use Rattle.std.proofs.Common.{◌≡◌, ℕ, ◌<◌, ◌≤◌, length, get_or, drop, pos, None, Ok, Err, refl, arith}
use Rattle.std.proofs.lemmas.Result.{err_from_is_err_and}
use Rattle.terms.specs.declared.decline.Cause.TheVariants.{TooLittleRoom}
use Rattle.settlement.specs.Ledger.{judge, ledger}
use Rattle.settlement.specs.Verdicts.{Judges}
use Rattle.settlement.specs.Weighing.{pay_at}
use Rattle.settlement.proofs.Carries.{asked}
use Rattle.terms.proofs.Says.{says}
use Rattle.settlement.proofs.Judging.{judge_held, held_21, held_30, judge_wrong, judged}
use Rattle.settlement.proofs.docket.Docket.judge.Goals as goal

pub returns-in_err-rows-clause-goes : goal.returns-in_err-rows-clause-goes
returns-in_err-rows-clause-goes g c =
    let mean = g.F.Fleet.meaning in
    let d = c.args.self.now in
    let m = mean d.fleet in
    let T = d.periods.count in
    let W = d.weight in
    let old = c.args.pays.now in
    let p = err_from_is_err_and c.from_residual.result c.from_residual.ensures.1 in
    let e = c.in_err-rows.field-0.0 in
    rw (p.1, p.2) (asked mean d (judge (length old)) (λ m T W l. Judges m T W l old old (Err e)) (λ l. refl)
    (λ cs f. let l = ledger m T W cs in judge_held m T W l old e (held_21 m T W l d.sheet.stage (length old) e f.stage_is c.in_err-rows.ensures)))

pub returns-then-pays-units-clause-goes : goal.returns-then-pays-units-clause-goes
returns-then-pays-units-clause-goes g c =
    let mean = g.F.Fleet.meaning in
    let d = c.args.self.now in
    let m = mean d.fleet in
    let T = d.periods.count in
    let W = d.weight in
    let old = c.args.pays.now in
    let e = c.at.result in
    let short : length old < m.units = omega (arith, c.units-units.ensures, c.if-pays-units.true) in
    asked mean d (judge (length old)) (λ m T W l. Judges m T W l old old (Err e)) (λ l. refl)
    (λ cs f. let l = ledger m T W cs in judge_held m T W l old e (held_30 m T W l d.sheet.stage c.in_ok-rows.rows (length old) e f.stage_is c.in_ok-rows.ensures short (says TooLittleRoom 0 e c.at.ensures)))

pub returns-in_err-judgement-clause-goes : goal.returns-in_err-judgement-clause-goes
returns-in_err-judgement-clause-goes g c =
    let mean = g.F.Fleet.meaning in
    let d = c.args.self.now in
    let m = mean d.fleet in
    let old = c.args.pays.now in
    let p = err_from_is_err_and c.from_residual-in_err-judgement.result c.from_residual-in_err-judgement.ensures.1 in
    let e = c.in_err-judgement.field-0.0 in
    let fits : m.units ≤ length old = omega (arith, c.units-units.ensures, c.if-pays-units.false) in
    rw (p.1, p.2) (asked mean d (judge (length old)) (λ m T W l. Judges m T W l old old (Err e)) (λ l. refl)
    (λ cs f. judge_wrong m (g.met.F.Fleet.sound d.fleet) d.periods.count d.weight d.some d.most cs d.sheet f c.in_ok-rows.rows c.in_ok-rows.ensures old fits e c.in_err-judgement.ensures))

pub returns-clause-goes : goal.returns-clause-goes
returns-clause-goes g c =
    let mean = g.F.Fleet.meaning in
    let d = c.args.self.now in
    let m = mean d.fleet in
    let old = c.args.pays.now in
    let new = c.write_pays.new.pays in
    let j = c.in_ok-judgement.judgement in
    let v = c.in_ok-judgement.ensures in
    let w = c.write_pays.ensures in
    let n = c.units-units.ensures in
    let fits : m.units ≤ length old = omega (arith, n, c.if-pays-units.false) in
    let each : (u : ℕ) → u < m.units → get_or new u (pos 0) ≡ pay_at (get_or d.sheet.units u None) = λ u lt. w.each u (omega (arith, n, lt)) in
    let past : drop m.units new ≡ drop m.units old = rw n at w.past in
    asked mean d (judge (length old)) (λ m T W l. Judges m T W l old new (Ok j)) (λ l. refl)
    (λ cs f. judged m (g.met.F.Fleet.sound d.fleet) d.periods.count d.weight d.some d.most cs d.sheet f c.in_ok-rows.rows c.in_ok-rows.ensures old fits new j v.0 v.1 v.2 v.3 v.4 each w.long past)
