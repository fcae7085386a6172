use Rattle.std.proofs.Common.{◌≡◌, ℕ, get_or, pos, ◌*ℤ◌, arith, rules, tests}
use Rattle.std.proofs.lemmas.Iterator.{first_from_find, YieldsList-from_range}
use Rattle.fleet.specs.Rows.{wanted_of}
use Rattle.settlement.proofs.Finding.{found_below}
use Rattle.settlement.proofs.sheet.weighing.first_missed.Goals as goal

pub returns : goal.returns
returns c =
    let n = c.args.periods.count in
    let Met : ℕ → Type 0 = λ t. get_or c.args.sums.now t (pos 0) ≡ pos c.args.weight *ℤ get_or (wanted_of c.args.needs.now) t (pos 0) in
    found_below Met n c.find.result (first_from_find _ _ c.find.result (λ t. Met t → ⊥) Met c.find.ensures.ran (YieldsList-from_range 0 n n (cc) (omega arith)) (λ x q k. search (rules, tests)) (λ x q k. search (rules, tests)))
