-- The best gain as a function is the best gain as a relation, at every row. Assumes nothing.
use Rattle.std.proofs.Common.{◌≡◌, ℕ, zero, suc, ◌+◌, ◌-◌, ◌<◌, Bool, true, false, ◌⊎◌, ℤ, pos, negsuc, ◌+ℤ◌, Some, None, Option, sym, refl, subst, inl, inr, ⊎_elim, arith}
use lib.Signed.{le_z, lt_z}
use Rattle.std.proofs.lemmas.Int.{ints}
use Rattle.std.proofs.lemmas.Bool.{cases_Bool, cases_lt, cond-true, cond-false, both_ways}
use Rattle.terms.specs.Numbers.{Near}
use Rattle.terms.proofs.Ints.{test_le}
use Rattle.fleet.specs.declared.scores.Gain.{Gain}
use Rattle.fleet.specs.Units.{UnitModel, SoundUnit, holds}
use Rattle.fleet.specs.Schedules.{Prices}
use Rattle.fleet.specs.Gains.{IsBest, BestGain, BestGainLaw, greater, greatest, entry_gain, onward, output_at, best_from, best_gain}
use Rattle.fleet.specs.Scores.{gain_scale}
use Rattle.fleet.specs.Table.{Best, ToGo, Through, Via}
use Rattle.fleet.proofs.Arcs.{holds_near}
use Rattle.fleet.proofs.Bests.{best_like}
use Rattle.fleet.specs.ScoreLaws.{int_scale, int_lawful}
use Rattle.fleet.proofs.Steps.{Upto, upto_all, end_yes, end_no}
use Rattle.fleet.proofs.Totals.{Part, gain_part, best_is, none_allowed}

less_le : (x y : ℤ) → lt_z y x ≡ true → le_z y x ≡ true
less_le x y h = grind (arith, ints)

not_less_le : (x y : ℤ) → lt_z y x ≡ false → le_z x y ≡ true
not_less_le x y h = grind (arith, ints)

best_greater : (One Two Both : ℤ → Type 0) (o u : Option ℤ) → Best int_scale One o → Best int_scale Two u → ((z : ℤ) → One z → Both z) → ((z : ℤ) → Two z → Both z) → ((z : ℤ) → Both z → One z ⊎ Two z) → Best int_scale Both (greater o u)
best_greater One Two Both None u h k to to2 from = best_like int_lawful Two Both u k to2 (λ z m. ⊎_elim (λ a. absurd (h z a)) (λ b. b) (from z m))
best_greater One Two Both (Some x) None h k to to2 from = best_like int_lawful One Both (Some x) h to (λ z m. ⊎_elim (λ a. a) (λ b. absurd (k z b)) (from z m))
best_greater One Two Both (Some x) (Some y) h k to to2 from =
    ⊎_elim
    (λ e. subst (λ m. Best int_scale Both (Some m)) (sym (cond-true (lt_z y x) x y e)) (to x h.0, λ z m. ⊎_elim (λ a. h.1 z a) (λ b. int_lawful.chain z y x (k.1 z b) (less_le x y e)) (from z m)))
    (λ e. subst (λ m. Best int_scale Both (Some m)) (sym (cond-false (lt_z y x) x y e)) (to2 y k.0, λ z m. ⊎_elim (λ a. int_lawful.chain z x y (h.1 z a) (not_less_le x y e)) (λ b. k.1 z b) (from z m)))
    (cases_Bool (lt_z y x))

-- x is had at a number below n
abbrev SomeBelow : ℕ → (ℕ → ℤ → Type 0) → ℤ → Type 0
SomeBelow n Had x = (i : ℕ) × (i < n) × Had i x

best_greatest : (n : ℕ) (f : ℕ → Option ℤ) (Had : ℕ → ℤ → Type 0) → ((i : ℕ) → Best int_scale (Had i) (f i)) → Best int_scale (SomeBelow n Had) (greatest n f)
unfolding greatest
best_greatest zero f Had h = λ x k. let lt = k.1 in omega arith
best_greatest (suc n) f Had h =
    best_greater (SomeBelow n Had) (Had n) (SomeBelow (suc n) Had) (greatest n f) (f n) (best_greatest n f Had h) (h n)
    (λ z k. let lt = k.1 in (k.0, omega arith, k.2))
    (λ z k. (n, omega arith, k))
    (λ z k. let lt = k.1 in ⊎_elim (λ below. inl (k.0, below, k.2)) (λ at. let same : k.0 ≡ n = omega arith in inr (subst (λ i. Had i z) same k.2)) (cases_lt k.0 n))

-- each output within ±500 is one of those that are gone through
output_index : (q : ℤ) → Near 500 q → (i : ℕ) × (i < 1001) × (output_at i ≡ q)
output_index (pos n) h = (n + 500, omega (arith, ints), omega (arith, ints))
output_index (negsuc n) h = (499 - n, omega (arith, ints), omega (arith, ints))

module _ (p : UnitModel) (sp : SoundUnit p) (r : Prices) (T : ℕ) where
  onward_best : (t a b : ℕ) (q : ℤ) (k : Bool) (o : Option ℤ) → holds (p.arc t a b) q ≡ k → Best int_scale (ToGo int_scale p r T (t + 1) b) o → Best int_scale (Through int_scale p r T t a b q) (onward k (entry_gain p r t a b q) o)
  onward_best t a b q false o e h = λ x v. both_ways (holds (p.arc t a b) q) e v.goes
  onward_best t a b q true None e h = λ x v. h v.rest v.togo
  onward_best t a b q true (Some y) e h = (
    record { goes = e; rest = y; togo = h.0; sums = refl },
    λ x v. subst (λ z. le_z z (entry_gain p r t a b q +ℤ y) ≡ true) (sym v.sums) (int_lawful.keeps_left (entry_gain p r t a b q) v.rest y (h.1 v.rest v.togo)),
  )

  outputs_best : (t a b : ℕ) (o : Option ℤ) → Best int_scale (ToGo int_scale p r T (t + 1) b) o → Best int_scale (Via int_scale p r T t a b) (greatest 1001 (λ i. onward (holds (p.arc t a b) (output_at i)) (entry_gain p r t a b (output_at i)) o))
  outputs_best t a b o h =
      best_like int_lawful (SomeBelow 1001 (λ i. Through int_scale p r T t a b (output_at i))) (Via int_scale p r T t a b) _
      (best_greatest 1001 _ (λ i. Through int_scale p r T t a b (output_at i)) (λ i. onward_best t a b (output_at i) (holds (p.arc t a b) (output_at i)) o refl h))
      (λ x k. (output_at k.0, k.2))
      (λ x v. let at = output_index v.0 (holds_near (p.arc t a b) v.0 (sp.arcs t a b) v.1.goes) in (at.0, at.1, subst (λ q. Through int_scale p r T t a b q x) (sym at.2) v.1))

  from_best : (k t a : ℕ) → t + k ≡ T → Best int_scale (ToGo int_scale p r T t a) (best_from p r k t a)
  unfolding best_from
  from_best zero t a end =
      let here : t ≡ T = omega arith in
      ⊎_elim
      (λ e. subst (Best int_scale (ToGo int_scale p r T t a)) (sym (cond-true (p.ends a) (Some (pos 0)) None e)) (end_yes int_lawful p sp r T t a here e))
      (λ e. subst (Best int_scale (ToGo int_scale p r T t a)) (sym (cond-false (p.ends a) (Some (pos 0)) None e)) (end_no int_lawful p sp r T t a here e))
      (cases_Bool (p.ends a))
  from_best (suc k) t a end =
      upto_all int_lawful p sp r T t a p.states _ refl (omega arith)
      (best_like int_lawful (SomeBelow p.states (λ b. Via int_scale p r T t a b)) (Upto int_scale p r T t a p.states) _
      (best_greatest p.states _ (λ b. Via int_scale p r T t a b) (λ b. outputs_best t a b (best_from p r k (t + 1) b) (from_best k (t + 1) b (omega arith))))
      (λ x h. record { to = h.0; under = h.1; via = h.2 })
      (λ x u. (u.to, u.under, u.via)))

pub int_part : Part int_scale gain_part (λ x. x)
int_part = record { none = refl; sum = λ a b. refl; made = λ g q. refl }

pub best_gain_law : BestGainLaw
best_gain_law p sp T r = by (best_gain p T r) (from_best p sp r T T 0 p.start (omega arith))
  where
    by : (o : Option ℤ) → Best int_scale (ToGo int_scale p r T 0 p.start) o → IsBest p T r o
    by None h = none_allowed int_scale p r T h
    by (Some g) h = best_is int_scale p r T (λ x. x) int_part test_le g h

pub gain_is : Part gain_scale gain_part (λ x. x.gain)
gain_is = record { none = refl; sum = λ a b. refl; made = λ g q. refl }

pub best_gain_is : (p : UnitModel) (r : Prices) (T : ℕ) (x : Gain) → Best gain_scale (ToGo gain_scale p r T 0 p.start) (Some x) → BestGain p T r x.gain
best_gain_is p r T x h = best_is gain_scale p r T (λ y. y.gain) gain_is (λ a b. test_le a.gain b.gain) x h
