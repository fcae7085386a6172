use Rattle.std.proofs.Common.{◌≡◌, ◌+◌, ◌*◌, ◌<◌, true, length, get_or, set, ℤ, pos, ◌+ℤ◌, ◌-ℤ◌, ◌*ℤ◌, Some, sym, refl, ◌∙◌, subst, arith, length-set, w64, SFits, to_z, of_z, rules}
use Rattle.std.proofs.lemmas.Int.{to_z-of_z}
use Rattle.terms.specs.Numbers.{Near, near}
use Rattle.terms.proofs.Bounds.{near_test, near_more, near_sub, fits_64}
use Rattle.settlement.specs.declared.standing.Standing.{Standing}
use Rattle.settlement.specs.Standings.{weight_in}
use Rattle.settlement.specs.Evidence.{lots_at}
use Rattle.settlement.proofs.Standings.{weight_most, weighted_more, runs_same, near_factor}
use Rattle.settlement.proofs.sheet.Sheet.note_mix.Goals.{After-lacking}
use Rattle.settlement.proofs.sheet.Sheet.note_mix.Goals as goal

-- what the mix lacks, by its weight
abbrev lack : After-lacking → ℤ
lack c = pos c.args.weight *ℤ (c.args.standing.best -ℤ c.args.mix.gain)

lack_is : (c : After-lacking) → to_z w64 (of_z w64 c.lacking.result) ≡ lack c
lack_is c =
    let k = c.args.mix in
    let fits : SFits w64 k.gain = search rules in
    let fl : SFits w64 c.lacking.result = search rules in
    let h = c.lacking.ensures in
    to_z-of_z w64 c.lacking.result fl ∙ (rw (to_z-of_z w64 k.gain fits) at h)

lack_near : (c : After-lacking) → Near (96000000000000 * c.args.weight) (lack c)
lack_near c =
    let s = c.args.standing in
    let k = c.args.mix in
    near_factor 96000000000000 c.args.weight (s.best -ℤ k.gain) (near_sub 48000000000000 48000000000000 s.best k.gain (near_test 48000000000000 s.best s.best_near) (near_test 48000000000000 k.gain k.gain_near))

heavier_standing : (c : After-lacking) → Standing
heavier_standing c = let s = c.args.standing in record { gain = s.gain; best = s.best; mixed = s.mixed + c.args.weight; gain_near = s.gain_near; best_near = s.best_near; light = c.requires.light }

within : (c : After-lacking) → c.args.unit < length c.args.self.now.units
within c = let long = c.args.self.now.long in let h = c.requires.unit in omega arith

gap_near : (c : After-lacking) (b : Standing) (z : ℤ) → b.mixed ≡ c.args.standing.mixed + c.args.weight → z ≡ c.args.self.now.gap +ℤ lack c → near (96000000000000 * weight_in (set c.args.self.now.units c.args.unit (Some b))) z ≡ true
gap_near c b z m e = weighted_more 96000000000000 c.args.self.now.units c.args.unit c.args.weight c.args.standing b c.args.self.now.gap (lack c) z (within c) c.requires.stands m e c.args.self.now.narrow (lack_near c)

-- the gap with what the mix lacks, as the code adds it
added_is : (c : After-lacking) → to_z w64 (of_z w64 c.args.self.now.gap) +ℤ to_z w64 (of_z w64 c.lacking.result) ≡ c.args.self.now.gap +ℤ lack c
added_is c =
    let s = c.args.self.now in
    let most = weight_most s.units s.long in
    let fg = fits_64 6144000000000000000 s.gap (omega arith) (near_more (96000000000000 * weight_in s.units) 6144000000000000000 s.gap (omega arith) (near_test (96000000000000 * weight_in s.units) s.gap s.narrow)) in
    rw (to_z-of_z w64 s.gap fg, lack_is c) refl

added_fits : (c : After-lacking) → SFits w64 (c.args.self.now.gap +ℤ lack c)
unfolding heavier_standing
added_fits c =
    let s = c.args.self.now in
    let b = heavier_standing c in
    let after = set s.units c.args.unit (Some b) in
    let most = weight_most after (length-set s.units c.args.unit (Some b) ∙ s.long) in
    fits_64 6144000000000000000 (s.gap +ℤ lack c) (omega arith) (near_more (96000000000000 * weight_in after) 6144000000000000000 (s.gap +ℤ lack c) (omega arith) (near_test (96000000000000 * weight_in after) (s.gap +ℤ lack c) (gap_near c b (s.gap +ℤ lack c) refl refl)))

gap_is : (c : After-lacking) → to_z w64 (of_z w64 (to_z w64 (of_z w64 c.args.self.now.gap) +ℤ to_z w64 (of_z w64 c.lacking.result))) ≡ c.args.self.now.gap +ℤ lack c
gap_is c = rw (added_is c) (to_z-of_z w64 (c.args.self.now.gap +ℤ lack c) (added_fits c))

pub overflow_add-self : goal.overflow_add-self
overflow_add-self c = let d = (goal.at.overflow_add-self c).After-lacking in rw (added_is d) (added_fits d)

pub add_lots-requires-clause-sums : goal.add_lots-requires-clause-sums
add_lots-requires-clause-sums c =
    let s = c.args.self.now in
    let few = weight_most s.units s.long in
    λ t. near_more (500 * weight_in s.units) 32000000 (get_or s.mixes t (pos 0)) (omega arith) (near_test (500 * weight_in s.units) (get_or s.mixes t (pos 0)) (s.weighted t))

pub invariant_of-self : goal.invariant_of-self
invariant_of-self c =
    let d = (goal.at.invariant_of-self c).After-lacking in
    let s = c.args.self.now in
    let u = c.args.unit in
    let w = c.args.weight in
    let es = c.args.mix.schedule.now in
    let b = c.heavier.result in
    let lt = within d in
    let more = c.heavier.ensures.mixed in
    record {
      long = length-set s.units u (Some b) ∙ s.long;
      counted = λ t. subst (λ n. near (500 * n) (get_or s.runs t (pos 0)) ≡ true) (sym (runs_same s.units u c.args.standing b lt c.requires.stands)) (s.counted t);
      weighted = λ t. weighted_more 500 s.units u w c.args.standing b (get_or s.mixes t (pos 0)) (pos w *ℤ lots_at es t) (get_or c.add_lots.new.sums t (pos 0)) lt c.requires.stands more (c.add_lots.ensures t) (s.weighted t) (near_factor 500 w (lots_at es t) (near_test 500 (lots_at es t) (c.args.mix.lots t)));
      narrow = gap_near d b _ more (gap_is d);
    }

pub returns : goal.returns
returns c =
    let d = (goal.at.returns c).After-lacking in
    let e = c.heavier.ensures in
    record {
      stage_is = refl;
      standing = c.heavier.result;
      units_are = refl;
      gain_is = e.gain;
      best_is = e.best;
      mixed_is = e.mixed;
      runs_are = refl;
      mixes_are = c.add_lots.ensures;
      gap_is = gap_is d;
    }
