use Rattle.std.proofs.Common.{sym, ap, ◌∙◌, subst, lit<, w32, w64, SFits}
use Rattle.std.proofs.lemmas.Int.{to_z-of_z}
use Rattle.terms.specs.Numbers.{Near}
use Rattle.terms.proofs.Bounds.{near_32, near_64, fits_32, fits_64}
use Rattle.fleet.specs.Rows.{prices_of}
use Rattle.fleet.specs.Scores.{gain_limit}
use Rattle.fleet.proofs.RowFacts.{row_priced, gain_entry}
use Rattle.fleet.proofs.Steps.{one_exact}
use Rattle.fleet.proofs.search.UnitDay.score.Goals as goal

pub gain_of-requires : goal.gain_of-requires
gain_of-requires g c =
    let priced = row_priced c.args.self.now.row.now in
    let cheap : Near 500000000 c.cost-cost.result = subst (Near 500000000) (sym c.cost-cost.ensures) (((g.met.F.Fleet.sound c.args.self.now.fleet.now).each c.args.self.now.unit).costs c.args.period c.args.from c.args.to _) in
    let near : Near 1000000000 c.numerator.result = subst (Near 1000000000) (sym c.numerator.ensures) (priced.each c.args.period) in
    record {
      numerator = near_32 1000000000 c.numerator.result (lit< tt) near;
      output = near_32 500 c.args.output (lit< tt) c.requires;
      over = rw c.over.ensures priced.few;
      cost = near_32 500000000 c.cost-cost.result (lit< tt) cheap;
    }

pub of-requires : goal.of-requires
of-requires g c = one_exact g.met.S.Score.lawful g.met.S.Score.adds _ (g.met.S.Score.lawful.fits_of _ _ (record { gain = near_64 gain_limit c.gain_of.result (lit< tt) c.gain_of.ensures.bounded; lots = near_32 500 c.args.output (lit< tt) c.requires }))

pub returns : goal.returns
returns g c =
    let priced = row_priced c.args.self.now.row.now in
    let cheap : Near 500000000 c.cost-cost.result = subst (Near 500000000) (sym c.cost-cost.ensures) (((g.met.F.Fleet.sound c.args.self.now.fleet.now).each c.args.self.now.unit).costs c.args.period c.args.from c.args.to _) in
    let near : Near 1000000000 c.numerator.result = subst (Near 1000000000) (sym c.numerator.ensures) (priced.each c.args.period) in
    let fo : SFits w32 c.args.output = c.ranges.output in
    let fc : SFits w32 c.cost-cost.result = fits_32 500000000 c.cost-cost.result (lit< tt) cheap in
    let fn : SFits w32 c.numerator.result = fits_32 1000000000 c.numerator.result (lit< tt) near in
    let fg : SFits w64 c.gain_of.result = fits_64 gain_limit c.gain_of.result (lit< tt) c.gain_of.ensures.bounded in
    let made = simp to_z-of_z at c.of.ensures in
    let gain = simp to_z-of_z at c.gain_of.ensures.gain in
    let paid = simp to_z-of_z at c.cost-cost.ensures in
    let whole = gain_entry ((g.F.Fleet.meaning c.args.self.now.fleet.now).model c.args.self.now.unit) (prices_of c.args.self.now.row.now) c.args.period c.args.from c.args.to c.args.output c.numerator.result c.cost-cost.result c.gain_of.result c.over.result c.numerator.ensures c.over.ensures paid gain in
    record {
      is = made ∙ ap (λ x. g.S.Score.scale.of x c.args.output) whole;
      fits = rw c.of.ensures (g.met.S.Score.lawful.fits_of _ _ (record { gain = near_64 gain_limit c.gain_of.result (lit< tt) c.gain_of.ensures.bounded; lots = near_32 500 c.args.output (lit< tt) c.requires }));
    }
