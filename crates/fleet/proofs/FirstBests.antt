-- From the first of the best ways to the first best schedule, and that there is only one. Assumes nothing.
use Rattle.std.proofs.Common.{◌≡◌, ℕ, ◌⊎◌, List, [], ◌∷◌, length, ℤ, ◌<ℤ◌, Some, sym, refl, ap, ◌∙◌, subst, inl, inr, ⊎_elim, arith}
use Rattle.std.proofs.lemmas.Int.{ints, by_lt_z}
use Rattle.std.proofs.lemmas.Bool.{cases_order}
use Rattle.terms.specs.declared.entry.Entry.{Entry}
use Rattle.fleet.specs.declared.scores.Gain.{Gain}
use Rattle.fleet.specs.Units.{UnitModel}
use Rattle.fleet.specs.Schedules.{Prices, Precedes}
use Rattle.fleet.specs.Gains.{Gains, First, FirstLaw}
use Rattle.fleet.specs.Scores.{gain_scale}
use Rattle.fleet.specs.Table.{Best, ToGo, FirstWay}
use Rattle.fleet.proofs.BestGains.{best_gain_is, gain_is}
use Rattle.fleet.proofs.Totals.{score_gain, best_unique}
use Rattle.fleet.proofs.Traces.{entry_same}

pub first_is : (p : UnitModel) (r : Prices) (T : ℕ) (x : Gain) (es : List Entry) → Best gain_scale (ToGo gain_scale p r T 0 p.start) (Some x) → FirstWay gain_scale p r T 0 p.start x es → First p T r es
first_is p r T x es h f =
    let long = f.long in
    record {
      gain = x.gain;
      best = best_gain_is p r T x h;
      gains = record { scheduled = record { long = omega arith; allowed = f.allowed }; gains = sym (score_gain p r (λ y. y.gain) gain_is 0 p.start es) ∙ ap (λ y. y.gain) f.score };
      earliest = λ ys g. let is = g.scheduled.long in f.earliest ys (omega arith) g.scheduled.allowed (ap (λ z. record { gain = z }) (score_gain p r (λ y. y.gain) gain_is 0 p.start ys ∙ g.gains));
    }

by_order : {P : Type 0} (a b : ℤ) → (a <ℤ b → P) → (b <ℤ a → P) → (a ≡ b → P) → P
by_order a b lt gt eq = by_lt_z a b lt (λ le. by_lt_z b a gt (λ ge. eq (omega (arith, ints))))

same_cons : (x y : Entry) (xs ys : List Entry) → x ≡ y → xs ≡ ys → x ∷ xs ≡ y ∷ ys
same_cons x y xs ys p q = cc

-- two schedules of the same length are the same, or one comes first
reading : (xs ys : List Entry) → length xs ≡ length ys → Precedes xs ys ⊎ (Precedes ys xs ⊎ (xs ≡ ys))
reading [] [] e = inr (inr refl)
reading [] (y ∷ ys) e = absurd (omega arith)
reading (x ∷ xs) [] e = absurd (omega arith)
reading (x ∷ xs) (y ∷ ys) e =
    let rest = reading xs ys (omega arith) in
    ⊎_elim
    (λ same. by_order x.output y.output
    (λ lt. inl (inr (same, inl lt)))
    (λ gt. inr (inl (inr (sym same, inl gt))))
    (λ level. ⊎_elim
    (λ before. inl (inr (same, inr (level, before))))
    (⊎_elim (λ after. inr (inl (inr (sym same, inr (sym level, after))))) (λ equal. inr (inr (same_cons x y xs ys (entry_same x y same level) equal))))
    rest))
    (⊎_elim (λ lt. inl (inl lt)) (λ gt. inr (inl (inl gt))))
    (cases_order x.state y.state)

pub first_law : FirstLaw
first_law p T r xs ys f g =
    let same = best_unique p T r f.gain g.gain f.best g.best in
    ⊎_elim
    (λ before. absurd (g.earliest xs (subst (λ z. Gains p T r z xs) same f.gains) before))
    (⊎_elim (λ after. absurd (f.earliest ys (subst (λ z. Gains p T r z ys) (sym same) g.gains) after)) (λ equal. equal))
    (reading xs ys (f.gains.scheduled.long ∙ sym g.gains.scheduled.long))
