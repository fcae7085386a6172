use Rattle.std.proofs.Common.{◌≡◌, ℕ, ◌*◌, ◌<◌, true, length, get_or, pos, ◌+ℤ◌, Some, sym, refl, ap, ◌∙◌, subst, arith, length-set, w64, SFits, rules}
use Rattle.std.proofs.lemmas.Int.{to_z-of_z}
use Rattle.terms.specs.Numbers.{near}
use Rattle.terms.proofs.Ints.{one_mulℤ}
use Rattle.terms.proofs.Bounds.{near_test, near_more}
use Rattle.settlement.specs.Standings.{runs_in}
use Rattle.settlement.specs.Evidence.{lots_at}
use Rattle.settlement.proofs.Standings.{runs_most, counted_more, weight_begun}
use Rattle.settlement.proofs.sheet.Sheet.note_run.Goals.{After-begun}
use Rattle.settlement.proofs.sheet.Sheet.note_run.Goals as goal

pub add_lots-requires-clause-sums : goal.add_lots-requires-clause-sums
add_lots-requires-clause-sums c =
    let s = c.args.self.now in
    let few = runs_most s.units s.long in
    λ t. near_more (500 * runs_in s.units) 32000000 (get_or s.runs t (pos 0)) (omega arith) (near_test (500 * runs_in s.units) (get_or s.runs t (pos 0)) (s.counted t))

added : (c : After-begun) (t : ℕ) → get_or c.add_lots.new.sums t (pos 0) ≡ get_or c.args.self.now.runs t (pos 0) +ℤ lots_at c.args.run.schedule.now t
added c t = c.add_lots.ensures t ∙ ap (λ z. get_or c.args.self.now.runs t (pos 0) +ℤ z) (one_mulℤ (lots_at c.args.run.schedule.now t))

pub invariant_of-self : goal.invariant_of-self
invariant_of-self c =
    let d = (goal.at.invariant_of-self c).After-begun in
    let s = c.args.self.now in
    let u = c.args.unit in
    let b = c.begun.result in
    let es = c.args.run.schedule.now in
    let lt : u < length s.units = let long = s.long in let h = c.requires.unit in omega arith in
    let same = weight_begun s.units u b lt c.requires.first c.begun.ensures.mixed in
    record {
      long = length-set s.units u (Some b) ∙ s.long;
      counted = λ t. counted_more s.units u b (get_or s.runs t (pos 0)) (lots_at es t) (get_or c.add_lots.new.sums t (pos 0)) lt c.requires.first (added d t) (s.counted t) (near_test 500 (lots_at es t) (c.args.run.lots t));
      weighted = λ t. subst (λ n. near (500 * n) (get_or s.mixes t (pos 0)) ≡ true) (sym same) (s.weighted t);
      narrow = subst (λ n. near (96000000000000 * n) s.gap ≡ true) (sym same) s.narrow;
    }

pub returns : goal.returns
returns c =
    let d = (goal.at.returns c).After-begun in
    let e = c.begun.ensures in
    let fits : SFits w64 c.args.run.gain = search rules in
    record {
      stage_is = refl;
      standing = c.begun.result;
      units_are = refl;
      gain_is = e.gain ∙ to_z-of_z w64 c.args.run.gain fits;
      best_is = e.best ∙ to_z-of_z w64 c.args.best c.ranges.best;
      mixed_is = e.mixed;
      runs_are = added d;
      mixes_are = refl;
      gap_is = refl;
    }
