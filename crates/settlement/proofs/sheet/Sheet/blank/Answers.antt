use Rattle.std.proofs.Common.{◌*◌, replicate, pos, None, Option, refl}
use lib.ListN.{length-replicate}
use Rattle.terms.proofs.Bounds.{near_true, near_zero}
use Rattle.settlement.specs.declared.standing.Standing.{Standing}
use Rattle.settlement.specs.Standings.{runs_in, weight_in}
use Rattle.settlement.proofs.SheetFacts.{zero_near}
use Rattle.settlement.proofs.sheet.Sheet.blank.Goals as goal

pub invariant_of-result : goal.invariant_of-result
invariant_of-result c =
    let none : Option Standing = None in
    let units = replicate 64 none in
    record {
      long = length-replicate 64 none;
      counted = λ t. zero_near (500 * runs_in units) 48 t (replicate 48 (pos 0)) refl;
      weighted = λ t. zero_near (500 * weight_in units) 48 t (replicate 48 (pos 0)) refl;
      narrow = near_true (96000000000000 * weight_in units) (pos 0) (near_zero (96000000000000 * weight_in units));
    }
