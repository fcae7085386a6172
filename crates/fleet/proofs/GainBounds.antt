-- How far a gain at a checked row can be from zero. Assumes nothing.
use Rattle.std.proofs.Common.{ℕ, ◌+◌, ◌*◌, ◌≤◌, List, [], ◌∷◌, length, ℤ, subst, arith}
use Rattle.terms.specs.Numbers.{Near}
use Rattle.terms.proofs.Bounds.{near_more}
use Rattle.terms.specs.declared.entry.Entry.{Entry}
use Rattle.fleet.specs.Units.{UnitModel, SoundUnit}
use Rattle.fleet.specs.Schedules.{Prices, AllowedFrom, Allowed, gain_of}
use Rattle.fleet.specs.Gains.{BestGain}
use Rattle.fleet.proofs.Arcs.{arc_within}
use Rattle.fleet.proofs.RowFacts.{Priced}
use Rattle.fleet.specs.ScoreLaws.{int_lawful}
use Rattle.fleet.proofs.Steps.{way_fits}
use Rattle.fleet.proofs.Totals.{score_gain}
use Rattle.fleet.proofs.BestGains.{int_part}

module _ (p : UnitModel) (sp : SoundUnit p) where
  -- no day is longer than 48 periods
  allowed_short : (t a : ℕ) (es : List Entry) → t ≤ 48 → AllowedFrom p t a es → t + length es ≤ 48
  allowed_short t a [] le h = omega arith
  allowed_short t a (e ∷ es) le h =
      let lt = arc_within p sp t a e.state e.output h.0 in
      let rest = allowed_short (t + 1) e.state es (omega arith) h.1 in
      omega arith

  pub gain_near : (r : Prices) → Priced r → (es : List Entry) → Allowed p es → Near 48000000000000 (gain_of p r es)
  gain_near r pr es h =
      let short = allowed_short 0 p.start es (omega arith) h in
      let fits = way_fits int_lawful p sp r pr 0 p.start es h in
      near_more (length es * 1000000000000) 48000000000000 (gain_of p r es) (omega arith) (subst (Near (length es * 1000000000000)) (score_gain p r (λ x. x) int_part 0 p.start es) fits.0)

  pub best_near : (T : ℕ) (r : Prices) → Priced r → (g : ℤ) → BestGain p T r g → Near 48000000000000 g
  best_near T r pr g b = subst (Near 48000000000000) b.attained.gains (gain_near r pr b.by b.attained.scheduled.allowed)
