use Rattle.std.proofs.Common.{◌≡◌, ◌<◌, ◌≤◌, length, get_or, set, pos, ◌+ℤ◌, ◌*ℤ◌, ap, ◌∙◌, ⊎_elim, arith, length-set, w32, w64, SFits, to_z, of_z, rules, below_more}
use Rattle.std.proofs.lemmas.Int.{to_z-of_z}
use Rattle.std.proofs.lemmas.Bool.{cases_lt}
use Rattle.std.proofs.lemmas.List.{get_or-set_same, get_or-set_other}
use Rattle.terms.proofs.Bounds.{near_test, near_add, near_mul, near_pos, fits_64}
use Rattle.settlement.specs.Evidence.{lots_at}
use Rattle.settlement.proofs.SheetFacts.{nothing_added}
use Rattle.settlement.proofs.sheet.book.add_lots.Goals.{After-times}
use Rattle.settlement.proofs.sheet.book.add_lots.Goals as goal

-- what is added, and to what
added_is : (c : After-times) → to_z w64 (of_z w64 c.times.result) ≡ pos c.args.weight *ℤ lots_at c.args.counted.schedule.now c.loop-period.period
added_is c =
    let s = c.args.counted.schedule.now in
    let fits : SFits w32 (lots_at s c.loop-period.period) = search rules in
    let ft : SFits w64 c.times.result = search rules in
    to_z-of_z w64 _ ft ∙ c.times.ensures ∙ ap (λ z. pos c.args.weight *ℤ z) (to_z-of_z w32 _ fits)

sum_is : (c : After-times) → to_z w64 (of_z w64 (get_or c.loop-period.sums c.loop-period.period (pos 0))) ≡ get_or c.args.sums.now c.loop-period.period (pos 0)
sum_is c =
    let i = c.loop-period.invariant in
    let fm : SFits w64 (get_or c.loop-period.sums c.loop-period.period (pos 0)) = search rules in
    to_z-of_z w64 _ fm ∙ i.2 c.loop-period.period (omega arith)

fits : (c : After-times) → SFits w64 (get_or c.args.sums.now c.loop-period.period (pos 0) +ℤ (pos c.args.weight *ℤ lots_at c.args.counted.schedule.now c.loop-period.period))
fits c =
    let t = c.loop-period.period in
    fits_64 32500000 _ (omega arith)
    (near_add 32000000 500000 (get_or c.args.sums.now t (pos 0)) (pos c.args.weight *ℤ lots_at c.args.counted.schedule.now t) (c.requires.sums t)
    (near_mul 1000 500 (pos c.args.weight) (lots_at c.args.counted.schedule.now t) (near_pos 1000 c.args.weight c.requires.light) (near_test 500 (lots_at c.args.counted.schedule.now t) (c.args.counted.lots t))))

pub overflow_add-sums : goal.overflow_add-sums
overflow_add-sums c = let d = (goal.at.overflow_add-sums c).After-times in rw (sum_is d, added_is d) (fits d)

pub loop-period-preserved : goal.loop-period-preserved
loop-period-preserved c =
    let d = (goal.at.loop-period-preserved c).After-times in
    let i = c.loop-period.invariant in
    let t = c.loop-period.period in
    let xs = c.loop-period.sums in
    let lt : t < length xs = omega (arith, i.0, c.args.counted.short) in
    let added = pos c.args.weight *ℤ lots_at c.args.counted.schedule.now t in
    let v : to_z w64 (of_z w64 (to_z w64 (of_z w64 (get_or xs t (pos 0))) +ℤ to_z w64 (of_z w64 c.times.result))) ≡ get_or c.args.sums.now t (pos 0) +ℤ added = rw (sum_is d, added_is d) (to_z-of_z w64 (get_or c.args.sums.now t (pos 0) +ℤ added) (fits d)) in
    let x = to_z w64 (of_z w64 (to_z w64 (of_z w64 (get_or xs t (pos 0))) +ℤ to_z w64 (of_z w64 c.times.result))) in (
      simp length-set i.0,
      below_more (λ k. get_or (set xs t x) k (pos 0) ≡ get_or c.args.sums.now k (pos 0) +ℤ (pos c.args.weight *ℤ lots_at c.args.counted.schedule.now k)) t
          (λ k h. get_or-set_other xs t k x (pos 0) (λ e. omega arith) ∙ i.1 k h)
          (get_or-set_same xs t x (pos 0) lt ∙ v),
      λ k h. get_or-set_other xs t k x (pos 0) (λ e. omega arith) ∙ i.2 k (omega arith),
    )

pub returns : goal.returns
returns c t =
    let i = c.loop-period.invariant in
    let s = c.args.counted.schedule.now in
    let end : length s ≤ c.loop-period.period = omega arith in
    ⊎_elim
    (λ lt. i.1 t lt)
    (λ le. i.2 t le ∙ nothing_added (get_or c.args.sums.now t (pos 0)) (pos c.args.weight) s t (omega arith))
    (cases_lt t c.loop-period.period)
