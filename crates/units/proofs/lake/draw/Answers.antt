use Rattle.std.proofs.Common.{◌≡◌, ℕ, Bool, slice_index_or, ◌==◌, sym, subst, rules}
use Rattle.std.proofs.lemmas.Bool.{eqb-true}
use Rattle.units.specs.declared.lake.TheConstants.{DRAWS}
use Rattle.units.specs.LakeUnits.{drawn, Draws}
use Rattle.units.proofs.Tables.{at}
use Rattle.units.proofs.Draws.{drawn_least}
use Rattle.units.proofs.lake.draw.Goals as goal

right : ℕ → ℕ → Bool
right k x = x == drawn k

pub returns : goal.returns
unfolding right
returns c =
    let e : slice_index_or DRAWS c.args.rise 0 ≡ drawn c.args.rise = eqb-true (slice_index_or DRAWS c.args.rise 0) (drawn c.args.rise) (at right DRAWS tt c.args.rise (search rules)) in
    record { is = e; least = subst (Draws c.args.rise) (sym e) (drawn_least c.args.rise) }
