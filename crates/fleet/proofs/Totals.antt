-- From the best score of all ways to the best gain of all schedules. Assumes nothing.
use Rattle.std.proofs.Common.{◌≡◌, ℕ, ◌+◌, true, List, [], ◌∷◌, ℤ, pos, ◌+ℤ◌, ◌≤ℤ◌, Some, None, Option, inr, sym, refl, ap, ◌∙◌, subst, arith}
use Rattle.std.specs.Option.{ok_or}
use Rattle.terms.specs.Declines.{Says}
use Rattle.terms.specs.declared.decline.Decline.{Decline}
use Rattle.terms.specs.declared.decline.Layer.TheVariants.{Docket}
use Rattle.terms.proofs.Ints.{both_le}
use Rattle.terms.specs.declared.entry.Entry.{Entry}
use Rattle.fleet.specs.Units.{UnitModel}
use Rattle.fleet.specs.Schedules.{Prices, Schedule, NoSchedule, gain_from, lots_of}
use Rattle.fleet.specs.Gains.{Gains, BestGain, entry_gain}
use Rattle.fleet.specs.Scores.{Scale}
use Rattle.fleet.specs.Answers.{Searched}
use Rattle.fleet.specs.Table.{Best, ToGo, worth, score_from}
use Rattle.fleet.proofs.RowFacts.{gain_cons, gain_nil}

-- a part of a score that adds up
pub record Part {S : Type 0} (s : Scale S) (of : ℤ → ℤ → ℤ) (part : S → ℤ) : Type 0 where
  pub none : part s.zero ≡ pos 0
  pub sum : (a b : S) → part (s.add a b) ≡ part a +ℤ part b
  pub made : (g q : ℤ) → part (s.of g q) ≡ of g q

abbrev pub gain_part : ℤ → ℤ → ℤ
gain_part g q = g

abbrev pub lots_part : ℤ → ℤ → ℤ
lots_part g q = q

module _ {S : Type 0} {s : Scale S} (p : UnitModel) (r : Prices) (part : S → ℤ) where
  pub score_gain : Part s gain_part part → (t a : ℕ) (es : List Entry) → part (score_from s p r t a es) ≡ gain_from p r t a es
  score_gain k t a [] = k.none ∙ sym (gain_nil p r t a)
  score_gain k t a (e ∷ es) =
      let x = worth s p r t a e.state e.output in
      k.sum x (score_from s p r (t + 1) e.state es)
      ∙ ap (λ z. z +ℤ part (score_from s p r (t + 1) e.state es)) (k.made (entry_gain p r t a e.state e.output) e.output)
      ∙ ap (λ z. entry_gain p r t a e.state e.output +ℤ z) (score_gain k (t + 1) e.state es)
      ∙ sym (gain_cons p r t a e es)

  pub score_lots : Part s lots_part part → (t a : ℕ) (es : List Entry) → part (score_from s p r t a es) ≡ lots_of es
  score_lots k t a [] = k.none
  score_lots k t a (e ∷ es) =
      let x = worth s p r t a e.state e.output in
      k.sum x (score_from s p r (t + 1) e.state es)
      ∙ ap (λ z. z +ℤ part (score_from s p r (t + 1) e.state es)) (k.made (entry_gain p r t a e.state e.output) e.output)
      ∙ ap (λ z. e.output +ℤ z) (score_lots k (t + 1) e.state es)

module _ {S : Type 0} (s : Scale S) (p : UnitModel) (r : Prices) (T : ℕ) where
  pub to_go : (es : List Entry) → Schedule p T es → ToGo s p r T 0 p.start (score_from s p r 0 p.start es)
  to_go es h = let e = h.long in record { way = es; long = omega arith; allowed = h.allowed; score = refl }

  pub scheduled : (x : S) (g : ToGo s p r T 0 p.start x) → Schedule p T g.way
  scheduled x g = let e = g.long in record { long = omega arith; allowed = g.allowed }

  pub none_allowed : Best s (ToGo s p r T 0 p.start) None → NoSchedule p T
  none_allowed h es k = h _ (to_go es k)

  pub way_gains : (part : S → ℤ) → Part s gain_part part → (x : S) (g : ToGo s p r T 0 p.start x) → Gains p T r (part x) g.way
  way_gains part k x g = record { scheduled = scheduled x g; gains = sym (score_gain p r part k 0 p.start g.way) ∙ ap part g.score }

  -- the best score has the best gain, where a better score never gains less
  pub best_is : (part : S → ℤ) → Part s gain_part part → ((a b : S) → s.at_most a b ≡ true → part a ≤ℤ part b) → (x : S) → Best s (ToGo s p r T 0 p.start) (Some x) → BestGain p T r (part x)
  best_is part k keeps x h = record {
    by = h.0.way;
    attained = way_gains part k x h.0;
    most = λ es ok. subst (λ z. z ≤ℤ part x) (score_gain p r part k 0 p.start es) (keeps _ x (h.1 _ (to_go es ok)));
  }

pub best_unique : (p : UnitModel) (T : ℕ) (r : Prices) (g h : ℤ) → BestGain p T r g → BestGain p T r h → g ≡ h
best_unique p T r g h x y =
    both_le g h
    (subst (λ z. z ≤ℤ h) x.attained.gains (y.most x.by x.attained.scheduled))
    (subst (λ z. z ≤ℤ g) y.attained.gains (x.most y.by y.attained.scheduled))

-- the best of a unit's ways, or 32
pub searched : {S : Type 0} (s : Scale S) (p : UnitModel) (r : Prices) (T u : ℕ) (room : Type 0) (o : Option S) (d : Decline) → room → Best s (ToGo s p r T 0 p.start) o → Says Docket 32 u d → Searched room p T u (λ x. Best s (ToGo s p r T 0 p.start) (Some x)) (ok_or o d)
searched s p r T u room None d has h says = inr (has, none_allowed s p r T h, says)
searched s p r T u room (Some x) d has h says = (has, h)
