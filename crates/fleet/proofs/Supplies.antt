-- From the best by two scores to the supply, and that there is only one. Assumes nothing.
use Rattle.std.proofs.Common.{◌≡◌, ℕ, ◌*◌, Bool, true, false, List, length, ℤ, pos, ◌+ℤ◌, ◌≤ℤ◌, Some, sym, refl, ap, ◌∙◌, subst, arith, lit<, w64, SFits as FitsSigned}
use Rattle.std.proofs.lemmas.Int.{ints}
use Rattle.terms.specs.Numbers.{Near}
use Rattle.terms.proofs.Bounds.{fits_64}
use Rattle.terms.proofs.Ints.{both_le}
use Rattle.terms.specs.declared.entry.Entry.{Entry}
use Rattle.fleet.specs.declared.rows.PriceRow.{PriceRow}
use Rattle.fleet.specs.declared.scores.ByLots.{ByLots}
use Rattle.fleet.specs.Units.{UnitModel, SoundUnit}
use Rattle.fleet.specs.Schedules.{Prices, lots_of}
use Rattle.fleet.specs.Gains.{Gains, BestGain, Supply, SupplyLaw}
use Rattle.fleet.specs.Rows.{prices_of, periods_of}
use Rattle.fleet.specs.Scores.{turned, lots_limit, lots_scale}
use Rattle.fleet.specs.Table.{Best, ToGo, score_from}
use Rattle.fleet.specs.ScoreLaws.{lots_lawful, lexical_first, lexical_second}
use Rattle.fleet.proofs.RowFacts.{row_priced}
use Rattle.fleet.proofs.Steps.{way_fits}
use Rattle.fleet.proofs.Totals.{Part, gain_part, lots_part, score_gain, score_lots, to_go, way_gains, best_is, best_unique}

turned_none : (f : Bool) → turned f (pos 0) ≡ pos 0
turned_none false = refl
turned_none true = refl

turned_sum : (f : Bool) (a b : ℤ) → turned f (a +ℤ b) ≡ turned f a +ℤ turned f b
turned_sum false a b = refl
turned_sum true a b = omega (arith, ints)

turned_back : (f : Bool) (q : ℤ) → turned f (turned f q) ≡ q
turned_back false q = refl
turned_back true q = omega (arith, ints)

gains : {n : ℕ} (f : Bool) → Part (lots_scale {n = n} f) gain_part (λ x. x.gain)
gains f = record { none = refl; sum = λ a b. refl; made = λ g q. refl }

lots : {n : ℕ} (f : Bool) → Part (lots_scale {n = n} f) lots_part (λ x. turned f x.rank)
lots f = record { none = turned_none f; sum = λ a b. turned_sum f a.rank b.rank; made = λ g q. turned_back f q }

lowest : (x y : ℤ) → x ≤ℤ y → turned true y ≤ℤ turned true x
lowest x y h = omega (arith, ints)

turned_held : (f : Bool) (q : ℤ) → Near (48 * lots_limit) q → FitsSigned w64 (turned f q)
turned_held false q h = fits_64 (48 * lots_limit) q (lit< tt) h
turned_held true q h = fits_64 (48 * lots_limit) (turned true q) (lit< tt) (record { low = omega (arith, ints); high = omega (arith, ints) })

-- the lots of a best score are within those of 48 periods
pub lots_held : {n : ℕ} (f : Bool) (p : UnitModel) → SoundUnit p → (row : PriceRow) (x : ByLots n) → Best (lots_scale f) (ToGo (lots_scale f) p (prices_of row) (periods_of row) 0 p.start) (Some x) → FitsSigned w64 (turned f x.rank)
lots_held f p sp row x h =
    let long = h.0.long in
    let short = row.numerators.short in
    let fits : Near (length h.0.way * lots_limit) x.rank = subst (λ y. Near (length h.0.way * lots_limit) y.rank) h.0.score (way_fits (lots_lawful f) p sp (prices_of row) (row_priced row) 0 p.start h.0.way h.0.allowed).1.0 in
    let low = fits.low in
    let high = fits.high in
    turned_held f x.rank (record { low = omega (arith, ints); high = omega (arith, ints) })

module _ (p : UnitModel) (r : Prices) (T : ℕ) {n m : ℕ} (least : ByLots n) (most : ByLots m) (h : Best (lots_scale true) (ToGo (lots_scale true) p r T 0 p.start) (Some least)) (k : Best (lots_scale false) (ToGo (lots_scale false) p r T 0 p.start) (Some most)) where
  fewest : BestGain p T r least.gain
  fewest = best_is (lots_scale true) p r T (λ x. x.gain) (gains true) (λ a b. lexical_first a.gain a.rank b.gain b.rank) least h

  mostly : BestGain p T r most.gain
  mostly = best_is (lots_scale false) p r T (λ x. x.gain) (gains false) (λ a b. lexical_first a.gain a.rank b.gain b.rank) most k

  same : most.gain ≡ least.gain
  same = best_unique p T r most.gain least.gain mostly fewest

  at_least : (es : List Entry) → Gains p T r least.gain es → turned true least.rank ≤ℤ lots_of es
  at_least es g =
      let x = score_from (lots_scale {n = n} true) p r 0 p.start es in
      subst (λ q. turned true least.rank ≤ℤ q) (score_lots p r (λ y. turned true y.rank) (lots true) 0 p.start es)
      (lowest x.rank least.rank (lexical_second x.gain x.rank least.gain least.rank (h.1 x (to_go (lots_scale true) p r T es g.scheduled)) (score_gain p r (λ y. y.gain) (gains true) 0 p.start es ∙ g.gains)))

  lots_at_most : (es : List Entry) → Gains p T r least.gain es → lots_of es ≤ℤ most.rank
  lots_at_most es g =
      let x = score_from (lots_scale {n = m} false) p r 0 p.start es in
      subst (λ q. q ≤ℤ most.rank) (score_lots p r (λ y. turned false y.rank) (lots false) 0 p.start es)
      (lexical_second x.gain x.rank most.gain most.rank (k.1 x (to_go (lots_scale false) p r T es g.scheduled)) (score_gain p r (λ y. y.gain) (gains false) 0 p.start es ∙ g.gains ∙ sym same))

  pub supplied : (few many : ℤ) → few ≡ turned true least.rank → many ≡ turned false most.rank → Supply p T r (least.gain, few, many)
  supplied few many is are = subst (λ q. Supply p T r (least.gain, q, many)) (sym is) (subst (λ q. Supply p T r (least.gain, turned true least.rank, q)) (sym are) (record {
    best = fewest;
    few = h.0.way;
    few_gains = way_gains (lots_scale true) p r T (λ x. x.gain) (gains true) least h.0;
    few_lots = sym (score_lots p r (λ x. turned true x.rank) (lots true) 0 p.start h.0.way) ∙ ap (λ x. turned true x.rank) h.0.score;
    many = k.0.way;
    many_gains = subst (λ g. Gains p T r g k.0.way) same (way_gains (lots_scale false) p r T (λ x. x.gain) (gains false) most k.0);
    many_lots = sym (score_lots p r (λ x. turned false x.rank) (lots false) 0 p.start k.0.way) ∙ ap (λ x. turned false x.rank) k.0.score;
    between = λ es g. (at_least es g, lots_at_most es g);
  }))

triple : (x y : ℤ × ℤ × ℤ) → x.0 ≡ y.0 → x.1 ≡ y.1 → x.2 ≡ y.2 → x ≡ y
triple x y a b c = make x.0 x.1 x.2 y.0 y.1 y.2 a b c
  where
    make : (a b c d e f : ℤ) → a ≡ d → b ≡ e → c ≡ f → ◌≡◌ {A = ℤ × ℤ × ℤ} (a, b, c) (d, e, f)
    make a b c d e f p q s = cc

module _ (p : UnitModel) (T : ℕ) (r : Prices) where
  no_more : (x y : ℤ × ℤ × ℤ) → Supply p T r x → Supply p T r y → (x.1 ≤ℤ y.1) × (y.2 ≤ℤ x.2)
  no_more x y s u =
      let same = best_unique p T r y.0 x.0 u.best s.best in (
        subst (λ q. x.1 ≤ℤ q) u.few_lots (s.between u.few (subst (λ g. Gains p T r g u.few) same u.few_gains)).0,
        subst (λ q. q ≤ℤ x.2) u.many_lots (s.between u.many (subst (λ g. Gains p T r g u.many) same u.many_gains)).1,
      )

pub supply_law : SupplyLaw
supply_law p T r x y s u =
    let a = no_more p T r x y s u in
    let b = no_more p T r y x u s in
    triple x y (best_unique p T r x.0 y.0 s.best u.best) (both_le x.1 y.1 a.0 b.0) (both_le x.2 y.2 b.1 a.1)
