-- One period of the search: over the arcs, and from one period to the one before. Assumes nothing.
use Rattle.std.proofs.Common.{◌≡◌, ℕ, suc, ◌+◌, ◌<◌, ◌≤◌, true, false, ◌⊎◌, List, [], ◌∷◌, length, ℤ, Some, None, Option, sym, refl, ap, ◌∙◌, subst, inl, inr, ⊎_elim, arith}
use Rattle.std.proofs.lemmas.Bool.{cases_lt, both_ways}
use Rattle.terms.specs.declared.entry.Entry.{Entry}
use Rattle.fleet.specs.Units.{UnitModel, SoundUnit}
use Rattle.fleet.specs.Schedules.{Prices, Goes, AllowedFrom}
use Rattle.fleet.specs.Scores.{Scale, IsWithin, Exact, Summed, AddsExactly, Lawful}
use Rattle.fleet.specs.Table.{Best, better_of, ToGo, Through, Via, Added, worth, score_from}
use Rattle.fleet.proofs.Arcs.{holds_near, arc_to}
use Rattle.fleet.proofs.RowFacts.{Priced, near_gain}
use Rattle.fleet.proofs.Bests.{best_like, best_join, best_one}

-- x is had through a next state below i
pub record Upto {S : Type 0} (s : Scale S) (p : UnitModel) (r : Prices) (T t a i : ℕ) (x : S) : Type 0 where
  pub to : ℕ
  pub under : to < i
  pub via : Via s p r T t a to x

module _ {S : Type 0} {s : Scale S} (l : Lawful s) (p : UnitModel) (sp : SoundUnit p) (r : Prices) (pr : Priced r) where
  -- no way adds more than its periods' largest amounts
  entry_fits : (t a : ℕ) (e : Entry) → Goes p t a e → IsWithin s 1 (worth s p r t a e.state e.output)
  entry_fits t a e h =
      let q = e.output in
      let near = holds_near (p.arc t a e.state) q (sp.arcs t a e.state) h in
      let gain = near_gain _ q r.over _ (pr.each t) near pr.few (sp.costs t a e.state q) in
      l.fits_of _ _ (record { gain = gain; lots = near })

  pub way_fits : (t a : ℕ) (way : List Entry) → AllowedFrom p t a way → IsWithin s (length way) (score_from s p r t a way)
  way_fits t a [] h = l.fits_zero
  way_fits t a (e ∷ es) h =
      let both = l.fits_add 1 (length es) _ _ (entry_fits t a e h.0) (way_fits (t + 1) e.state es h.1) in
      let k : 1 + length es ≡ suc (length es) = omega arith in
      subst (λ m. IsWithin s m (score_from s p r t a (e ∷ es))) k both

  way_summed : (t a : ℕ) (way : List Entry) → AllowedFrom p t a way → Summed s (length way) (score_from s p r t a way)
  way_summed t a [] h = record { amounts = []; few = omega arith; each = tt; sum = refl }
  way_summed t a (e ∷ es) h =
      let w = worth s p r t a e.state e.output in
      let rest = way_summed (t + 1) e.state es h.1 in
      let few = rest.few in
      record { amounts = w ∷ rest.amounts; few = omega arith; each = (entry_fits t a e h.0, rest.each); sum = ap (s.add w) rest.sum }

  -- what is to go after the first period
  pub togo_summed : (T t a : ℕ) (x : S) → T ≤ 48 → 0 < t → ToGo s p r T t a x → Summed s 47 x
  togo_summed T t a x few later h =
      let long = h.long in
      let way = way_summed t a h.way h.allowed in
      let fewer = way.few in
      record { amounts = way.amounts; few = omega arith; each = way.each; sum = way.sum ∙ h.score }

module _ {S : Type 0} {s : Scale S} (l : Lawful s) (adds : AddsExactly s) where
  pub one_exact : (a : S) → IsWithin s 1 a → Exact s a
  one_exact a h = subst (Exact s) (l.right a) (adds (a ∷ []) (omega arith) (h, tt))

  pub sum_exact : (a b : S) → IsWithin s 1 a → Summed s 47 b → Exact s (s.add a b)
  sum_exact a b h k = let few = k.few in subst (λ z. Exact s (s.add a z)) k.sum (adds (a ∷ k.amounts) (omega arith) (h, k.each))

module _ {S : Type 0} {s : Scale S} (l : Lawful s) (p : UnitModel) (sp : SoundUnit p) (r : Prices) where
  pub via_best : (T t a b : ℕ) (rest : S) (o : Option S) → Best s (ToGo s p r T (t + 1) b) (Some rest) → Best s (Added s p r t a b (p.arc t a b) rest) o → Best s (Via s p r T t a b) o
  via_best T t a b rest None k h = λ x v. h (s.add (worth s p r t a b v.0) rest) (v.0, v.1.goes, refl)
  via_best T t a b rest (Some m) k h = (
    (h.0.0, record { goes = h.0.1; rest = rest; togo = k.0; sums = h.0.2 }),
    λ x v. let f = s.add (worth s p r t a b v.0) in
        let w = v.1 in
        subst (λ y. s.at_most y m ≡ true) (sym w.sums)
        (l.chain (f w.rest) (f rest) m (l.keeps_left _ w.rest rest (k.1 w.rest w.togo)) (h.1 (f rest) (v.0, w.goes, refl))),
  )

  pub via_no_rest : (T t a b : ℕ) → Best s (ToGo s p r T (t + 1) b) None → Best s (Via s p r T t a b) None
  via_no_rest T t a b k = λ x v. k v.1.rest v.1.togo

  upto_step : (T t a i : ℕ) (y : S) → Upto s p r T t a (i + 1) y → Upto s p r T t a i y ⊎ Via s p r T t a i y
  upto_step T t a i y u = ⊎_elim (λ lt. inl (record { to = u.to; under = lt; via = u.via })) (λ le. let lt = u.under in let same : u.to ≡ i = omega arith in inr (subst (λ b. Via s p r T t a b y) same u.via)) (cases_lt u.to i)

  upto_keeps : (T t a i : ℕ) (y : S) → Upto s p r T t a i y → Upto s p r T t a (i + 1) y
  upto_keeps T t a i y u = let lt = u.under in record { to = u.to; under = omega arith; via = u.via }

  upto_takes : (T t a i : ℕ) (y : S) → Via s p r T t a i y → Upto s p r T t a (i + 1) y
  upto_takes T t a i y v = record { to = i; under = omega arith; via = v }

  pub upto_less : (T t a i : ℕ) (o : Option S) → Best s (Via s p r T t a i) None → Best s (Upto s p r T t a i) o → Best s (Upto s p r T t a (i + 1)) o
  upto_less T t a i o none h = best_like l _ _ o h (upto_keeps T t a i) (λ y u. ⊎_elim (λ k. k) (λ v. absurd (none y v)) (upto_step T t a i y u))

  pub upto_more : (T t a i : ℕ) (o : Option S) (x : S) → Best s (Via s p r T t a i) (Some x) → Best s (Upto s p r T t a i) o → Best s (Upto s p r T t a (i + 1)) (better_of s o x)
  upto_more T t a i o x v h = best_join l _ _ _ o x h v (upto_keeps T t a i) (upto_takes T t a i) (upto_step T t a i)

  pub togo_up : (T t a i : ℕ) → i ≡ p.states → t < T → (y : S) (way : List Entry) → t + length way ≡ T → AllowedFrom p t a way → score_from s p r t a way ≡ y → Upto s p r T t a i y
  togo_up T t a i all before y [] long ok is = absurd (omega arith)
  togo_up T t a i all before y (e ∷ es) long ok is =
      let lt = arc_to p sp t a e.state e.output ok.0 in
      record { to = e.state; under = omega arith; via = (e.output, record { goes = ok.0; rest = score_from s p r (t + 1) e.state es; togo = record { way = es; long = omega arith; allowed = ok.1; score = refl }; sums = sym is }) }

  pub through_togo : (T t a b : ℕ) (q : ℤ) (y : S) → Through s p r T t a b q y → ToGo s p r T t a y
  through_togo T t a b q y v =
      let g = v.togo in
      let long = g.long in
      record { way = record { state = b; output = q } ∷ g.way; long = omega arith; allowed = (v.goes, g.allowed); score = ap (s.add (worth s p r t a b q)) g.score ∙ sym v.sums }

  pub upto_all : (T t a i : ℕ) (o : Option S) → i ≡ p.states → t < T → Best s (Upto s p r T t a i) o → Best s (ToGo s p r T t a) o
  upto_all T t a i o all before h = best_like l _ _ o h (λ y u. through_togo T t a u.to u.via.0 y u.via.1) (λ y g. togo_up T t a i all before y g.way g.long g.allowed g.score)

  -- at the end of the day
  no_way : (T a : ℕ) (way : List Entry) → T + length way ≡ T → way ≡ []
  no_way T a [] h = refl
  no_way T a (e ∷ es) h = absurd (omega arith)

  pub end_yes : (T t a : ℕ) → t ≡ T → p.ends a ≡ true → Best s (ToGo s p r T t a) (Some s.zero)
  end_yes T t a end e = subst (λ u. Best s (ToGo s p r T u a) (Some s.zero)) (sym end) (
    record { way = []; long = omega arith; allowed = e; score = refl },
    λ x g. let nil = no_way T a g.way g.long in
        let is : s.zero ≡ x = subst (λ w. score_from s p r T a w ≡ x) nil g.score in
        subst (λ z. s.at_most z s.zero ≡ true) is ((best_one l s.zero).1 s.zero refl),
  )

  pub end_no : (T t a : ℕ) → t ≡ T → p.ends a ≡ false → Best s (ToGo s p r T t a) None
  end_no T t a end e = subst (λ u. Best s (ToGo s p r T u a) None) (sym end) (λ x g. both_ways (p.ends a) e (subst (AllowedFrom p T a) (no_way T a g.way g.long) g.allowed))
