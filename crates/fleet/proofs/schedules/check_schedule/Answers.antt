use Rattle.std.proofs.Common.{◌≡◌, ℕ, ◌*◌, ◌<◌, true, get_or, ℤ, ◌+ℤ◌, Option, sym, ap, ◌∙◌, subst, arith, lit<, w32, w64, SFits, rules}
use Rattle.std.proofs.lemmas.Int.{ints, to_z-of_z}
use Rattle.std.proofs.lemmas.Bool.{both_ways}
use Rattle.terms.specs.Numbers.{Near}
use Rattle.terms.specs.declared.decline.Cause.TheVariants.{ScheduleNotAllowed}
use Rattle.terms.proofs.Says.{says}
use Rattle.terms.proofs.Bounds.{near_32, fits_32, fits_64}
use Rattle.fleet.specs.declared.records.Range.{Range}
use Rattle.fleet.specs.Units.{holds, among}
use Rattle.fleet.specs.Schedules.{Goes}
use Rattle.fleet.specs.Rows.{prices_of}
use Rattle.fleet.proofs.Arcs.{holds_near, arc_within}
use Rattle.fleet.proofs.RowFacts.{row_priced, gain_entry}
use Rattle.fleet.proofs.Checks.{going_next, going_bad, going_ends, blank}
use Rattle.fleet.proofs.schedules.check_schedule.Goals as goal
use Rattle.fleet.proofs.schedules.check_schedule.Goals.{After-from-cost}

pub returns-then-not-contains : goal.returns-then-not-contains
returns-then-not-contains g c =
    let e = get_or c.args.schedule.now c.loop-step.step-index blank in
    let fits : SFits w32 e.output = search rules in
    let told = ap (among c.in-Some.range) (sym (to_z-of_z w32 e.output fits)) ∙ sym c.if-not-contains.ensures in
    going_bad _ _ _ _ _ _ _ _ c.loop-step-test.true (λ h. both_ways _ told (subst (λ (o : Option Range). holds o e.output ≡ true) (sym c.in-Some.ensures) h)) c.loop-step.invariant _ (says ScheduleNotAllowed c.loop-step.period _ c.at-then-not-contains.ensures)

-- the entry goes on, what it costs, and what bounds there are
record IsWithin (g : Rattle.fleet.proofs.schedules.check_schedule.Given.Over) (c : goal.After-from-cost g) : Type 0 where
  goes : Goes ((g.F.Fleet.meaning c.args.fleet.now).model c.args.unit) c.loop-step.period c.loop-step.state (get_or c.args.schedule.now c.loop-step.step-index blank)
  within : c.loop-step.period < 48
  near : Near 500 (get_or c.args.schedule.now c.loop-step.step-index blank).output
  cheap : Near 500000000 c.cost-paid.result
  narrow : SFits w32 c.cost-paid.result
  output : SFits w32 (get_or c.args.schedule.now c.loop-step.step-index blank).output

fits_here : (g : Rattle.fleet.proofs.schedules.check_schedule.Given.Over) (c : goal.After-from-cost g) → IsWithin g c
fits_here g c =
    let e = get_or c.args.schedule.now c.loop-step.step-index blank in
    let p = (g.F.Fleet.meaning c.args.fleet.now).model c.args.unit in
    let sp = (g.met.F.Fleet.sound c.args.fleet.now).each c.args.unit in
    let fits : SFits w32 e.output = search rules in
    let told = ap (among c.in-Some.range) (sym (to_z-of_z w32 e.output fits)) ∙ sym c.if-not-contains.ensures in
    let goes = subst (λ (o : Option Range). holds o e.output ≡ true) c.in-Some.ensures told in
    let cheap : Near 500000000 c.cost-paid.result = subst (Near 500000000) (sym c.cost-paid.ensures) (sp.costs c.loop-step.period c.loop-step.state e.state _) in
    record {
      goes = goes;
      within = arc_within p sp c.loop-step.period c.loop-step.state e.state e.output goes;
      near = holds_near (p.arc c.loop-step.period c.loop-step.state e.state) e.output (sp.arcs c.loop-step.period c.loop-step.state e.state) goes;
      cheap = cheap;
      narrow = fits_32 500000000 c.cost-paid.result (lit< tt) cheap;
      output = fits;
    }

cost_sum : (t : ℕ) (c x : ℤ) → t < 48 → Near (t * 500000000) c → Near 500000000 x → SFits w64 (c +ℤ x)
cost_sum t c x lt h k = let all : Near 24000000000 (c +ℤ x) = record { low = omega (arith, ints); high = omega (arith, ints) } in fits_64 24000000000 (c +ℤ x) (lit< tt) all

gain_sum : (t : ℕ) (c x : ℤ) → t < 48 → Near (t * 1000000000000) c → Near 1000000000000 x → SFits w64 (c +ℤ x)
gain_sum t c x lt h k = let all : Near 48000000000000 (c +ℤ x) = record { low = omega (arith, ints); high = omega (arith, ints) } in fits_64 48000000000000 (c +ℤ x) (lit< tt) all

pub overflow_add-cost : goal.overflow_add-cost
overflow_add-cost g c =
    let f = fits_here g c in
    let n32 = f.narrow in
    let n64 : SFits w64 c.cost-paid.result = fits_64 500000000 c.cost-paid.result (lit< tt) f.cheap in
    let inv = rw (c.loop-step.cost-is, c.loop-step.gain-is) at c.loop-step.invariant in
    rw (c.from-cost.ensures, c.loop-step.cost-is) (simp to_z-of_z (cost_sum c.loop-step.period c.loop-step.cost c.cost-paid.result f.within inv.cheap f.cheap))

pub gain_of-gain-requires : goal.gain_of-gain-requires
gain_of-gain-requires g c =
    let f = fits_here g (goal.at.gain_of-gain-requires g c).After-from-cost in
    let priced = row_priced c.args.row.now in
    let near : Near 1000000000 c.numerator.result = subst (Near 1000000000) (sym c.numerator.ensures) (priced.each c.loop-step.period) in
    record {
      numerator = near_32 1000000000 c.numerator.result (lit< tt) near;
      output = near_32 500 _ (lit< tt) f.near;
      over = rw c.over.ensures priced.few;
      cost = near_32 500000000 c.cost-paid.result (lit< tt) f.cheap;
    }

pub overflow_add-gain : goal.overflow_add-gain
overflow_add-gain g c =
    let f = fits_here g (goal.at.overflow_add-gain g c).After-from-cost in
    let n64 : SFits w64 c.gain_of-gain.result = fits_64 1000000000000 c.gain_of-gain.result (lit< tt) c.gain_of-gain.ensures.bounded in
    let inv = rw (c.loop-step.cost-is, c.loop-step.gain-is) at c.loop-step.invariant in
    rw c.loop-step.gain-is (simp to_z-of_z (gain_sum c.loop-step.period c.loop-step.gain c.gain_of-gain.result f.within inv.small c.gain_of-gain.ensures.bounded))

pub loop-step-preserved : goal.loop-step-preserved
loop-step-preserved g c =
    let f = fits_here g (goal.at.loop-step-preserved g c).After-from-cost in
    let e = get_or c.args.schedule.now c.loop-step.step-index blank in
    let p = (g.F.Fleet.meaning c.args.fleet.now).model c.args.unit in
    let sp = (g.met.F.Fleet.sound c.args.fleet.now).each c.args.unit in
    let r = prices_of c.args.row.now in
    let t = c.loop-step.period in
    let small = c.gain_of-gain.ensures.bounded in
    let fo : SFits w32 e.output = f.output in
    let fc : SFits w32 c.cost-paid.result = f.narrow in
    let fd : SFits w64 c.cost-paid.result = fits_64 500000000 c.cost-paid.result (lit< tt) f.cheap in
    let fg : SFits w64 c.gain_of-gain.result = fits_64 1000000000000 c.gain_of-gain.result (lit< tt) small in
    let fn : SFits w32 c.numerator.result = search rules in
    let inv = rw (c.loop-step.cost-is, c.loop-step.gain-is) at c.loop-step.invariant in
    let cs : SFits w64 (c.loop-step.cost +ℤ c.cost-paid.result) = cost_sum t c.loop-step.cost c.cost-paid.result f.within inv.cheap f.cheap in
    let gs : SFits w64 (c.loop-step.gain +ℤ c.gain_of-gain.result) = gain_sum t c.loop-step.gain c.gain_of-gain.result f.within inv.small small in
    let paid = simp to_z-of_z at c.cost-paid.ensures in
    let gain = simp to_z-of_z at c.gain_of-gain.ensures.gain in
    let whole = gain_entry p r t c.loop-step.state e.state e.output c.numerator.result c.cost-paid.result c.gain_of-gain.result c.over.result c.numerator.ensures c.over.ensures paid gain in
    rw (c.from-cost.ensures, c.loop-step.cost-is, c.loop-step.gain-is) (simp to_z-of_z (going_next p r c.args.schedule.now sp c.loop-step.step-index t c.loop-step.state c.loop-step.cost c.loop-step.gain c.cost-paid.result c.gain_of-gain.result c.loop-step-test.true f.goes paid whole f.cheap small inv))

pub returns-then-may_end : goal.returns-then-may_end
returns-then-may_end g c = going_ends _ _ _ _ _ _ _ _ c.loop-step-test.false (sym c.may_end.ensures ∙ c.if-may_end.true) c.loop-step.invariant
