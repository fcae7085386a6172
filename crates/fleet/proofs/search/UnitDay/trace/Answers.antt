use Rattle.std.proofs.Common.{◌+◌, ◌*◌, ◌<◌, length, take, drop, Some, None, ◌≡◌, ◌-◌, refl, ap, ◌∙◌, arith, length-take}
use Rattle.std.proofs.lemmas.List.{take_at, take_all, drop_at}
use Rattle.fleet.specs.Table.{BestSlots}
use Rattle.fleet.specs.Rows.{prices_of, periods_of}
use Rattle.fleet.proofs.Arcs.{arc_to}
use Rattle.fleet.proofs.Slots.{slot_best, rows_row}
use Rattle.fleet.proofs.Traces.{showing_next, showing_all}
use Rattle.fleet.proofs.search.UnitDay.trace.Goals as goal
use Rattle.fleet.proofs.search.UnitDay.trace.Goals.{In-loop-period}

-- the period is one of the day's, and the slots after it are its row
record Here (g : Rattle.fleet.proofs.search.UnitDay.trace.Given.Over) (c : In-loop-period g) : Type 0 where
  within : c.loop-period.period < periods_of c.args.self.now.row.now
  row : BestSlots g.S.Score.scale ((g.F.Fleet.meaning c.args.self.now.fleet.now).model c.args.self.now.unit) (prices_of c.args.self.now.row.now) (periods_of c.args.self.now.row.now) (c.loop-period.period + 1) (take ((c.loop-period.period + 1) * 80 + c.states-states.result - (c.loop-period.period + 1) * 80) (drop ((c.loop-period.period + 1) * 80) c.args.table.now))

here : (g : Rattle.fleet.proofs.search.UnitDay.trace.Given.Over) (c : In-loop-period g) → Here g c
here g c =
    let few = ((g.met.F.Fleet.sound c.args.self.now.fleet.now).each c.args.self.now.unit).few_states in
    let end = c.periods.ensures in
    let short = c.args.self.now.row.now.numerators.short in
    let room = c.requires.room in
    let within : c.loop-period.period < periods_of c.args.self.now.row.now = omega (arith, simp length-take at c.loop-period-test.true) in
    record { within = within; row = rows_row g.S.Score.scale _ _ _ _ _ _ c.args.table.now c.requires.filled (omega arith) refl (omega (arith, c.states-states.ensures)) (omega (arith, c.requires.slots, c.states-states.ensures)) }

pub unreachable-requires : goal.unreachable-requires
unreachable-requires g c =
    let sp = (g.met.F.Fleet.sound c.args.self.now.fleet.now).each c.args.self.now.unit in
    let h = here g (goal.at.unreachable-requires g c).In-loop-period in
    let st = c.first_step-step.ensures.attains in
    let into = arc_to _ sp c.loop-period.period c.loop-period.state c.first_step-step.result.state c.first_step-step.result.output st.goes in
    absurd (slot_best g.S.Score.scale _ _ _ _ c.first_step-step.result.state _ _ None h.row into c.index-next-state.is c.in_default.is st.rest st.togo)

pub loop-period-preserved : goal.loop-period-preserved
loop-period-preserved g c =
    let sp = (g.met.F.Fleet.sound c.args.self.now.fleet.now).each c.args.self.now.unit in
    let h = here g (goal.at.loop-period-preserved g c).In-loop-period in
    let into = arc_to _ sp c.loop-period.period c.loop-period.state c.first_step-step.result.state c.first_step-step.result.output c.first_step-step.ensures.attains.goes in
    let next = slot_best g.S.Score.scale _ _ _ _ c.first_step-step.result.state _ _ (Some c.in-Some.rest) h.row into c.index-next-state.is c.in-Some.is in
    let long = c.loop-period.auto.entry-items in
    showing_next g.met.S.Score.lawful _ sp _ _ _ c.loop-period.period c.loop-period.state c.loop-period.to_go c.in-Some.rest c.first_step-step.result c.loop-period.entry-items h.within (omega (arith, c.loop-period-test.true)) c.first_step-step.ensures next c.loop-period.invariant

pub returns : goal.returns
returns g c =
    let sp = (g.met.F.Fleet.sound c.args.self.now.fleet.now).each c.args.self.now.unit in
    let T = periods_of c.args.self.now.row.now in
    let is : c.periods.result ≡ T = c.periods.ensures in
    let room = c.requires.room in
    let long : length c.loop-period.entry-items ≡ T = omega (arith, simp length-take at c.loop-period.auto.entry-items) in
    let ends : c.loop-period.period ≡ T = omega (arith, simp length-take at c.loop-period-test.false, simp length-take at c.loop-period.auto.period-end) in
    record {
      first = rw (take_at c.loop-period.entry-items (drop c.periods.result c.args.out.now) T long) (rw (take_all T c.loop-period.entry-items (omega arith)) at (showing_all g.met.S.Score.lawful _ sp _ _ _ c.loop-period.period _ _ c.loop-period.entry-items ends c.loop-period.invariant));
      past = drop_at c.loop-period.entry-items (drop c.periods.result c.args.out.now) T long ∙ ap (λ n. drop n c.args.out.now) is;
    }
