use Rattle.std.proofs.Common.{arith}
use Rattle.fleet.proofs.Slots.{rows_last, row_next, rows_next, rows_slot}
use Rattle.fleet.proofs.search.UnitDay.best.Goals as goal

pub loop-period-init : goal.loop-period-init
loop-period-init g c =
    let short = c.args.self.now.row.now.numerators.short in
    let room = c.requires in
    let end = c.periods-periods.ensures in
    rows_last g.S.Score.scale _ _ _ _ _ c.args.table.now c.fill_end.new.slots end (omega arith) c.fill_end.ensures

pub fill_period-requires-clause-next : goal.fill_period-requires-clause-next
fill_period-requires-clause-next g c =
    let short = c.args.self.now.row.now.numerators.short in
    let room = c.requires in
    let end = c.periods-periods.ensures in
    let few = ((g.met.F.Fleet.sound c.args.self.now.fleet.now).each c.args.self.now.unit).few_states in
    let states = c.states-states.ensures in
    let parts = c.split_at_mut-slots.ensures in
    let began = c.loop-period-test.true in
    row_next g.S.Score.scale _ _ _ _ _ c.loop-period.table c.split_at_mut-slots.result.0.now c.split_at_mut-slots.result.1.now parts.value parts.front_len states (omega arith) (omega arith) (λ u a le. c.loop-period.invariant u a (omega arith))

pub loop-period-preserved : goal.loop-period-preserved
loop-period-preserved g c =
    let few = ((g.met.F.Fleet.sound c.args.self.now.fleet.now).each c.args.self.now.unit).few_states in
    let states = c.states-states.ensures in
    let parts = c.split_at_mut-slots.ensures in
    let began = c.loop-period-test.true in
    let filled = c.fill_period.ensures.long in
    rows_next g.S.Score.scale _ _ _ _ c.loop-period.period _ c.loop-period.table c.split_at_mut-slots.result.0.now c.split_at_mut-slots.result.1.now c.fill_period.new.slots (omega arith) parts.value (omega arith) (omega arith) (omega arith) c.fill_period.ensures c.loop-period.invariant

pub returns : goal.returns
returns g c =
    let sp = (g.met.F.Fleet.sound c.args.self.now.fleet.now).each c.args.self.now.unit in
    let few = sp.few_states in
    let first = sp.starts in
    let is = c.start.ensures in
    let rows = c.loop-period.invariant in
    record {
      is = rows_slot g.S.Score.scale _ _ _ 0 _ c.start.result c.loop-period.table c.index-table-start.result (λ u a le. rows u a (omega (arith, c.loop-period-test.false))) (omega arith) first (omega arith) (omega (arith, c.requires, c.loop-period.auto.table, c.fill_end.auto.slots)) c.index-table-start.is;
      filled = λ u a le. rows u a (omega (arith, c.loop-period-test.false));
    }
