use Rattle.std.proofs.Common.{◌≡◌, ◌*◌, ◌^◌, ◌<◌, ◌≤◌, pos, ◌*ℤ◌, ◌∙◌, arith, w32, w64, SFits, to_z, of_z, rules}
use Rattle.std.proofs.lemmas.Int.{to_z-of_z}
use Rattle.terms.proofs.Bounds.{near_mul, near_pos, fits_64, fits_near_32}
use Rattle.settlement.proofs.sheet.book.times.Goals as goal

fits : (c : goal.After-from-2) → SFits w64 (pos c.args.weight *ℤ c.args.lots)
fits c =
    let small : c.args.weight ≤ 4294967295 = omega arith in
    let big : 4294967295 * 2 ^ 31 < 2 ^ 63 = omega arith in
    fits_64 (4294967295 * 2 ^ 31) (pos c.args.weight *ℤ c.args.lots) big (near_mul 4294967295 (2 ^ 31) (pos c.args.weight) c.args.lots (near_pos 4294967295 c.args.weight small) (fits_near_32 c.args.lots c.ranges.lots))

weight_is : (c : goal.After-from-2) → to_z w64 (of_z w64 c.from.result) ≡ pos c.args.weight
weight_is c = to_z-of_z w64 c.from.result (search rules) ∙ c.from.ensures

lots_are : (c : goal.After-from-2) → to_z w64 (of_z w64 c.from-2.result) ≡ c.args.lots
lots_are c = to_z-of_z w64 c.from-2.result (search rules) ∙ c.from-2.ensures ∙ to_z-of_z w32 c.args.lots c.ranges.lots

pub returns : goal.returns
returns c = rw (weight_is c, lots_are c) (to_z-of_z w64 (pos c.args.weight *ℤ c.args.lots) (fits c))
