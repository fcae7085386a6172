use Rattle.std.proofs.Common.{◌≡◌, ℕ, ◌*◌, ◌≤◌, ℤ, pos, ◌-ℤ◌, ◌*ℤ◌, refl, ◌∙◌, arith, w64, SFits, to_z, of_z, rules}
use Rattle.std.proofs.lemmas.Int.{to_z-of_z}
use Rattle.terms.specs.Numbers.{Near}
use Rattle.terms.proofs.Bounds.{near_test, near_mul, near_pos, near_sub, fits_64}
use Rattle.settlement.specs.declared.standing.Standing.{Standing}
use Rattle.settlement.proofs.standing.Standing.lacking.Goals as goal

module _ (s : Standing) (gain : ℤ) (weight : ℕ) (near : Near 48000000000000 gain) (light : weight ≤ 1000) where
  short_near : Near 96000000000000 (s.best -ℤ gain)
  short_near = near_sub 48000000000000 48000000000000 s.best gain (near_test 48000000000000 s.best s.best_near) near

  fits : SFits w64 (pos weight *ℤ (s.best -ℤ gain))
  fits = fits_64 (1000 * 96000000000000) (pos weight *ℤ (s.best -ℤ gain)) (omega arith) (near_mul 1000 96000000000000 (pos weight) (s.best -ℤ gain) (near_pos 1000 weight light) short_near)

  -- the factors, as the code has them
  factors : (w : ℤ) → to_z w64 (of_z w64 w) ≡ pos weight → SFits w64 s.best → SFits w64 gain → to_z w64 (of_z w64 w) *ℤ to_z w64 (of_z w64 (to_z w64 (of_z w64 s.best) -ℤ to_z w64 (of_z w64 gain))) ≡ pos weight *ℤ (s.best -ℤ gain)
  factors w is best own = rw (is, to_z-of_z w64 s.best best, to_z-of_z w64 gain own, to_z-of_z w64 (s.best -ℤ gain) (fits_64 96000000000000 (s.best -ℤ gain) (omega arith) short_near)) refl

pub overflow_mul-result : goal.overflow_mul-result
overflow_mul-result c =
    let weight_is : to_z w64 (of_z w64 c.from.result) ≡ pos c.args.weight = to_z-of_z w64 c.from.result (search rules) ∙ c.from.ensures in
    let best : SFits w64 c.args.self.best = search rules in
    rw (factors c.args.self c.args.gain c.args.weight c.requires.gain c.requires.light c.from.result weight_is best c.ranges.gain) (fits c.args.self c.args.gain c.args.weight c.requires.gain c.requires.light)

pub returns : goal.returns
returns c =
    let weight_is : to_z w64 (of_z w64 c.from.result) ≡ pos c.args.weight = to_z-of_z w64 c.from.result (search rules) ∙ c.from.ensures in
    let best : SFits w64 c.args.self.best = search rules in
    let fit = fits c.args.self c.args.gain c.args.weight c.requires.gain c.requires.light in
    rw (factors c.args.self c.args.gain c.args.weight c.requires.gain c.requires.light c.from.result weight_is best c.ranges.gain) (to_z-of_z w64 (pos c.args.weight *ℤ (c.args.self.best -ℤ c.args.gain)) fit)
