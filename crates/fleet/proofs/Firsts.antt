-- The first entry in reading order that attains the best. Assumes nothing.
use Rattle.std.proofs.Common.{◌≡◌, ℕ, ◌+◌, ◌<◌, true, false, ℤ, pos, ◌+ℤ◌, ◌<ℤ◌, Some, None, Option, sym, refl, subst, ⊎_elim, arith}
use Rattle.std.proofs.lemmas.Int.{ints, by_lt_z}
use Rattle.std.proofs.lemmas.Bool.{cases_lt, both_ways}
use Rattle.fleet.specs.declared.records.Range.{Range}
use Rattle.fleet.specs.Scores.{Scale, Lawful}
use Rattle.fleet.specs.Units.{UnitModel, SoundUnit, holds}
use Rattle.fleet.specs.Schedules.{Prices}
use Rattle.fleet.specs.Table.{Best, ToGo, Through, Step, worth}
use Rattle.fleet.proofs.Arcs.{holds_none, among_low, among_high}
use Rattle.fleet.proofs.Steps.{togo_up, through_togo}

-- no state below i attains x
pub record NoneBelow {S : Type 0} (s : Scale S) (p : UnitModel) (r : Prices) (T t a : ℕ) (x : S) (i : ℕ) : Type 0 where
  pub none : (b : ℕ) (q : ℤ) → b < i → Through s p r T t a b q x → ⊥

-- no output below i attains x through state b
pub record NoneUnder {S : Type 0} (s : Scale S) (p : UnitModel) (r : Prices) (T t a : ℕ) (x : S) (b : ℕ) (i : ℤ) : Type 0 where
  pub none : (q : ℤ) → q <ℤ i → Through s p r T t a b q x → ⊥

module _ {S : Type 0} {s : Scale S} (l : Lawful s) (p : UnitModel) (sp : SoundUnit p) (r : Prices) (T t a : ℕ) (x : S) where
  below_step : (i : ℕ) → ((q : ℤ) → Through s p r T t a i q x → ⊥) → NoneBelow s p r T t a x i → NoneBelow s p r T t a x (i + 1)
  below_step i here h = record { none = λ b q lt k. ⊎_elim (λ under. h.none b q under k) (λ over. let same : b ≡ i = omega arith in here q (subst (λ c. Through s p r T t a c q x) same k)) (cases_lt b i) }

  pub below_no_rest : (i : ℕ) → Best s (ToGo s p r T (t + 1) i) None → NoneBelow s p r T t a x i → NoneBelow s p r T t a x (i + 1)
  below_no_rest i none = below_step i (λ q k. none k.rest k.togo)

  pub below_no_arc : (i : ℕ) → None ≡ p.arc t a i → NoneBelow s p r T t a x i → NoneBelow s p r T t a x (i + 1)
  below_no_arc i e = below_step i (λ q k. holds_none q (subst (λ (o : Option Range). holds o q ≡ true) (sym e) k.goes))

  pub under_start : (b : ℕ) (o : Range) (i : ℤ) → i ≡ o.lo → Some o ≡ p.arc t a b → NoneUnder s p r T t a x b i
  under_start b o i is e = record { none = λ q lt k. let low = among_low o q (subst (λ (z : Option Range). holds z q ≡ true) (sym e) k.goes) in omega (arith, ints) }

  pub under_next : (b : ℕ) (i j : ℤ) (rest : S) → j ≡ i +ℤ pos 1 → Best s (ToGo s p r T (t + 1) b) (Some rest) → s.at_most x (s.add (worth s p r t a b i) rest) ≡ false → NoneUnder s p r T t a x b i → NoneUnder s p r T t a x b j
  under_next b i j rest next best not h = record {
    none = λ q lt k.
        by_lt_z q i (λ under. h.none q under k)
        (λ over.
        let same : q ≡ i = omega (arith, ints) in
        let here = subst (λ z. Through s p r T t a b z x) same k in
        both_ways (s.at_most x (s.add (worth s p r t a b i) rest)) not
        (subst (λ y. s.at_most y (s.add (worth s p r t a b i) rest) ≡ true) (sym here.sums) (l.keeps_left _ here.rest rest (best.1 here.rest here.togo))));
  }

  pub below_next : (b : ℕ) (o : Range) (i : ℤ) → i ≡ o.hi +ℤ pos 1 → Some o ≡ p.arc t a b → NoneUnder s p r T t a x b i → NoneBelow s p r T t a x b → NoneBelow s p r T t a x (b + 1)
  below_next b o i is e under = below_step b (λ q k. let high = among_high o q (subst (λ (z : Option Range). holds z q ≡ true) (sym e) k.goes) in under.none q (omega (arith, ints)) k)

  pub step_found : (b : ℕ) (q : ℤ) (rest : S) → Best s (ToGo s p r T t a) (Some x) → Best s (ToGo s p r T (t + 1) b) (Some rest) → holds (p.arc t a b) q ≡ true → s.at_most x (s.add (worth s p r t a b q) rest) ≡ true → NoneBelow s p r T t a x b → NoneUnder s p r T t a x b q → Step s p r T t a x (record { state = b; output = q })
  step_found b q rest best next goes does below under =
      let y = s.add (worth s p r t a b q) rest in
      let at : Through s p r T t a b q y = record { goes = goes; rest = rest; togo = next.0; sums = refl } in
      let same = l.one x y does (best.1 y (through_togo l p sp r T t a b q y at)) in
      record { attains = record { goes = goes; rest = rest; togo = next.0; sums = same }; lower_state = below.none; lower_output = under.none }

  pub step_none : (i : ℕ) → i ≡ p.states → t < T → Best s (ToGo s p r T t a) (Some x) → NoneBelow s p r T t a x i → ⊥
  step_none i all before best below =
      let g = best.0 in
      let u = togo_up l p sp r T t a i all before x g.way g.long g.allowed g.score in
      below.none u.to u.via.0 u.under u.via.1
