use Rattle.std.proofs.Common.{◌≡◌, ◌<◌, ◌⊎◌, sym, refl, ◌∙◌, inl, inr, arith, rules}
use Rattle.terms.specs.declared.decline.Cause.TheVariants.{NoUnits, PeriodsOrWeight}
use Rattle.terms.proofs.Says.{says}
use Rattle.settlement.specs.Calls.{Opens}
use Rattle.settlement.proofs.Opens.{open_law, by_11, by_12, blank_follows}
use Rattle.settlement.proofs.docket.Docket.open.Goals as goal

pub returns-then-units-eq0-clause-opened : goal.returns-then-units-eq0-clause-opened
returns-then-units-eq0-clause-opened g c =
    let m = g.F.Fleet.meaning c.args.fleet in
    let T = c.args.periods in
    let W = c.args.weight in
    let why = by_11 m T W (sym c.units.ensures ∙ c.if-units-eq0.true) in
    ((record { number = 11; place = 0 }, (open_law.some m T W _).1 why, says NoUnits 0 c.at.result c.at.ensures, why), refl)

pub returns-in_default-clause-opened : goal.returns-in_default-clause-opened
returns-in_default-clause-opened g c =
    let m = g.F.Fleet.meaning c.args.fleet in
    let T = c.args.periods in
    let W = c.args.weight in
    let why = by_12 m T W (λ e. c.if-units-eq0.false (c.units.ensures ∙ e)) (inl c.in_default.ensures) in
    ((record { number = 12; place = 0 }, (open_law.some m T W _).1 why, says PeriodsOrWeight 0 c.at-in_default.result c.at-in_default.ensures, why), refl)

pub returns-then-not-contains-clause-opened : goal.returns-then-not-contains-clause-opened
returns-then-not-contains-clause-opened g c =
    let m = g.F.Fleet.meaning c.args.fleet in
    let T = c.args.periods in
    let W = c.args.weight in
    let far : (W < 1) ⊎ (1000 < W) = search rules in
    let why = by_12 m T W (λ e. c.if-units-eq0.false (c.units.ensures ∙ e)) (inr far) in
    ((record { number = 12; place = 0 }, (open_law.some m T W _).1 why, says PeriodsOrWeight 0 c.at-then-not-contains.result c.at-then-not-contains.ensures, why), refl)

pub returns-clause-opened : goal.returns-clause-opened
returns-clause-opened g c =
    let m = g.F.Fleet.meaning c.args.fleet in
    let T = c.args.periods in
    let W = c.args.weight in
    let p = c.in-Some.periods in
    let count : p.count ≡ T = c.in-Some.ensures.2 in
    let opens : Opens m T W = record { units = λ e. c.if-units-eq0.false (c.units.ensures ∙ e); periods = (omega (arith, count, p.some), omega (arith, count, p.few)); weight = (search rules, search rules) } in (
      (open_law.none m T W).1 opens,
      refl,
      record { fleet_is = refl; periods_are = count; weight_is = refl; sheet_is = blank_follows m T c.blank.result c.blank.ensures },
      opens,
    )
