use Rattle.std.proofs.Common.{length, rules, ◌≡◌, sym, subst, arith}
use Rattle.terms.specs.Numbers.{Near}
use Rattle.terms.proofs.Bounds.{near_true}
use Rattle.fleet.specs.Rows.{prices_of}
use Rattle.fleet.proofs.RowFacts.{row_priced}
use Rattle.fleet.proofs.GainBounds.{gain_near}
use Rattle.settlement.specs.Evidence.{lots_at}
use Rattle.settlement.proofs.UnitCalls.{allowed_lots}
use Rattle.settlement.proofs.docket.Docket.account.Goals as goal

pub invariant_of-result : goal.invariant_of-result
invariant_of-result g c =
    let d = c.args.self.now in
    let sp = (g.met.F.Fleet.sound d.fleet).each c.args.unit in
    let p = (g.F.Fleet.meaning d.fleet).model c.args.unit in
    let row = c.args.prices.now in
    let es = c.args.schedule.now in
    let fine = c.in_ok-account.ensures in
    let long = d.periods.few in
    let size : length es ≡ d.periods.count = search rules in
    let gain = c.in_ok-account.account.gain in
    let near : Near 48000000000000 gain = subst (Near 48000000000000) (sym fine.2) (gain_near p sp (prices_of row) (row_priced row) es fine.0) in
    record {
      short = omega (arith, size, long);
      lots = λ t. near_true 500 (lots_at es t) (allowed_lots p sp es fine.0 t);
      gain_near = search rules;
    }
