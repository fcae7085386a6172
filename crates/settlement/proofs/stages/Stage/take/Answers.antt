use Rattle.std.proofs.Common.{refl}
use Rattle.fleet.specs.Rows.{need_fault, price_fault, NeedRowOf, PriceRowOf}
use Rattle.settlement.proofs.SheetFacts.{made_yes}
use Rattle.settlement.proofs.stages.Stage.take.Goals as goal

pub returns-in_ok-new-in-Blank-Need : goal.returns-in_ok-new-in-Blank-Need
returns-in_ok-new-in-Blank-Need c =
    let T = c.args.periods.count in
    let xs = c.in-Blank-Need.wanted.now in
    let row = c.in_ok-new-in-Blank-Need.field-0 in
    let made = made_yes (need_fault T xs) (NeedRowOf T xs) row c.in_ok-new-in-Blank-Need.ensures.made in
    rw (c.in-Blank-Need.is-0, c.in-Blank-Need.is-1) (row, refl, made.1, made.0)

pub returns-in_ok-prices-in-Needed-Price : goal.returns-in_ok-prices-in-Needed-Price
returns-in_ok-prices-in-Needed-Price c =
    let T = c.args.periods.count in
    let d = c.in-Needed-Price.over in
    let ns = c.in-Needed-Price.numerators.now in
    let row = c.in_ok-prices-in-Needed-Price.prices in
    let made = made_yes (price_fault T d ns) (PriceRowOf T d ns) row c.in_ok-prices-in-Needed-Price.ensures.made in
    rw (c.in-Needed-Price.is-0, c.in-Needed-Price.is-1) (row, refl, made.1, made.0)
