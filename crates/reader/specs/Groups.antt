-- The groups of an offer. Assumes nothing.
use Rattle.std.specs.Prelude.{ℕ, pos, codes, ◌⊎◌}
use Rattle.std.proofs.Common.{inl, inr}
use Rattle.words.specs.Shapes.{Shape, natural, both, either, put, group}
use Rattle.reader.specs.declared.numbers.Run.{Run}
use Rattle.reader.specs.declared.numbers.Rest.{Rest}
use Rattle.reader.specs.declared.numbers.StartCosts.{StartCosts}
use Rattle.reader.specs.declared.numbers.Rate.{Rate}
use Rattle.reader.specs.declared.numbers.Flow.{Flow}
use Rattle.reader.specs.declared.numbers.Was.{Was}
use Rattle.reader.specs.declared.numbers.Was.TheVariants.{On, Off}

abbrev pub lots : Shape ℕ
lots = natural (pos 1) (pos 500)

abbrev pub money : Shape ℕ
money = natural (pos 0) (pos 100000000)

abbrev pub level : Shape ℕ
level = natural (pos 0) (pos 79)

abbrev pub periods : Shape ℕ
periods = natural (pos 1) (pos 48)

-- (run LO HI)
abbrev pub run_shape : Shape Run
run_shape = put (λ v. record { lo = v.0; hi = v.1 }) (λ r. (r.lo, r.hi)) (group (codes "run") (both lots lots))

-- (rest UP DOWN COLD)
abbrev pub rest_shape : Shape Rest
rest_shape =
    put (λ v. record { up = v.0; down = v.1.0; cold = v.1.1 }) (λ r. (r.up, (r.down, r.cold)))
    (group (codes "rest") (both (natural (pos 1) (pos 24)) (both (natural (pos 1) (pos 24)) periods)))

-- (start HOT FROST)
abbrev pub start_shape : Shape StartCosts
start_shape = put (λ v. record { hot = v.0; frost = v.1 }) (λ s. (s.hot, s.frost)) (group (codes "start") (both money money))

-- (rate V B)
abbrev pub rate_shape : Shape Rate
rate_shape = put (λ v. record { step = v.0; edge = v.1 }) (λ r. (r.step, r.edge)) (group (codes "rate") (both lots lots))

-- (flow G R)
abbrev pub flow_shape : Shape Flow
flow_shape = put (λ v. record { fall = v.0; rise = v.1 }) (λ f. (f.fall, f.rise)) (group (codes "flow") (both level level))

abbrev pub was_of : ℕ ⊎ ℕ → Was
was_of (inl m) = On m
was_of (inr m) = Off m

abbrev pub was_words : Was → ℕ ⊎ ℕ
was_words (On m) = inl m
was_words (Off m) = inr m

-- on M or off M
abbrev pub on_off_shape : Shape Was
on_off_shape = put was_of was_words (either (codes "on") periods (codes "off") periods)

-- (was on M) or (was off M)
abbrev pub was_shape : Shape Was
was_shape = group (codes "was") on_off_shape
