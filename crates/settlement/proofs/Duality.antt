-- What runs and mixes of the same totals show of every price row. Assumes nothing.
use Rattle.std.proofs.Common.{◌≡◌, ℕ, suc, ◌+◌, ◌<◌, ◌≤◌, Bool, true, false, cond, eqb, List, [], ◌∷◌, length, get_or, ℤ, pos, ◌+ℤ◌, ◌-ℤ◌, ◌*ℤ◌, ◌≤ℤ◌, Some, None, Option, sym, refl, ap, ◌∙◌, subst, ⊎_elim, arith}
use lib.IntN.{*ℤ-zero, *ℤ_comm}
use lib.Signed.{le_z}
use Rattle.std.proofs.lemmas.Int.{ints}
use Rattle.std.proofs.ByRecursion.{All-weaker}
use Rattle.std.proofs.lemmas.List.Sums.{sum_by-cons}
use Rattle.std.proofs.lemmas.Bool.{cases_Bool}
use Rattle.std.specs.List.{AllByRecursion}
use Rattle.terms.specs.Sums.{sum_to, sum_of}
use Rattle.terms.proofs.Ints.{test_le, mul_addℤ, mul_leℤ, mul_leftℤ, one_mulℤ, zero_factor}
use Rattle.terms.proofs.Sums.{sum_to_first, sum_to_same, sum_of_nonneg, sum_of_zero, sum_of_none}
use Rattle.terms.proofs.Places.{only_at}
use Rattle.terms.specs.declared.entry.Entry.{Entry}
use Rattle.fleet.specs.Units.{Meaning, UnitModel, Sound, SoundUnit}
use Rattle.fleet.specs.Schedules.{Prices, Schedule, numerator_at, revenue_from, cost_of, gain_of}
use Rattle.fleet.specs.Gains.{BestGain, IsBest, best_gain}
use Rattle.fleet.specs.Uplifts.{best, or_zero, pay_of}
use Rattle.fleet.proofs.BestGains.{best_gain_law}
use Rattle.fleet.proofs.Totals.{best_unique}
use Rattle.settlement.specs.Ledger.{Ledger, Mix, has, weighs}
use Rattle.settlement.specs.Evidence.{Evidence, AllBest, Ran, lots_at, schedule_of, run_of, uplift_at, gap_at}
use Rattle.settlement.proofs.Ledgers.{Kept, no_clash}
use Rattle.settlement.proofs.Balance.{balance}

-- a gain as a sum over the periods --

revenue_is : (r : Prices) (t : ℕ) (es : List Entry) → revenue_from r t es ≡ sum_to (length es) (λ i. numerator_at r (t + i) *ℤ lots_at es i)
revenue_is r t [] = refl
revenue_is r t (e ∷ es) =
    let here : t ≡ t + 0 = omega arith in
    let same = sum_to_same (length es) (λ i. numerator_at r (t + 1 + i) *ℤ lots_at es i) (λ i. numerator_at r (t + suc i) *ℤ lots_at es i) (λ i l. let next : t + 1 + i ≡ t + suc i = omega arith in ap (λ j. numerator_at r j *ℤ lots_at es i) next) in
    ap (λ j. (numerator_at r j *ℤ e.output) +ℤ revenue_from r (t + 1) es) here
    ∙ ap (λ z. (numerator_at r (t + 0) *ℤ e.output) +ℤ z) (revenue_is r (t + 1) es ∙ same)
    ∙ sym (sum_to_first (length es) (λ i. numerator_at r (t + i) *ℤ lots_at (e ∷ es) i))

pub gain_is : (p : UnitModel) (T : ℕ) (r : Prices) (es : List Entry) → length es ≡ T → gain_of p r es ≡ sum_to T (λ t. numerator_at r t *ℤ lots_at es t) -ℤ pos r.over *ℤ cost_of p es
gain_is p T r es long =
    let same = sum_to_same (length es) (λ i. numerator_at r (0 + i) *ℤ lots_at es i) (λ i. numerator_at r i *ℤ lots_at es i) (λ i l. let at : 0 + i ≡ i = omega arith in ap (λ j. numerator_at r j *ℤ lots_at es i) at) in
    ap (λ z. z -ℤ pos r.over *ℤ cost_of p es) (revenue_is r 0 es ∙ same ∙ ap (λ n. sum_to n (λ i. numerator_at r i *ℤ lots_at es i)) long)

-- steps over plain numbers --

difference_zero : (a b : ℤ) → a -ℤ b ≡ pos 0 → b ≡ a
difference_zero a b e = omega (arith, ints)

zero_difference : (a b : ℤ) → b ≡ a → a -ℤ b ≡ pos 0
zero_difference a b e = omega (arith, ints)

difference_nonneg : (a b : ℤ) → b ≤ℤ a → pos 0 ≤ℤ (a -ℤ b)
difference_nonneg a b h = omega (arith, ints)

less : (x g : ℤ) → pos 0 ≤ℤ g → (x -ℤ g) ≤ℤ x
less x g h = omega (arith, ints)

≤-from : (a b c d : ℤ) → a ≡ b → b ≤ℤ c → c ≡ d → a ≤ℤ d
≤-from a b c d p h q = omega (arith, ints)

less_nothing : (x g : ℤ) → g ≡ pos 0 → x -ℤ g ≡ x
less_nothing x g e = omega (arith, ints)

product_nonneg : (w : ℕ) (z : ℤ) → pos 0 ≤ℤ z → pos 0 ≤ℤ (pos w *ℤ z)
product_nonneg w z h = ≤-from (pos 0) (pos w *ℤ pos 0) (pos w *ℤ z) (pos w *ℤ z) (sym (*ℤ-zero (pos w))) (mul_leℤ w (pos 0) z h) refl

over_one : (a b : ℤ) → le_z a b ≡ false → (b +ℤ pos 1) ≤ℤ a
over_one a b h = grind (arith, ints)

too_much : (w : ℕ) (wa wb w1 wb1 : ℤ) → 1 ≤ w → w1 ≡ pos w → wa ≤ℤ wb → wb1 ≤ℤ wa → wb1 ≡ wb +ℤ w1 → ⊥
too_much w wa wb w1 wb1 one e p q s = omega (arith, ints)

-- a positive factor cancels
cancel : (w : ℕ) (a b : ℤ) → 1 ≤ w → (pos w *ℤ a) ≤ℤ (pos w *ℤ b) → a ≤ℤ b
cancel w a b one h =
    ⊎_elim
    (λ e. test_le a b e)
    (λ e. absurd (too_much w (pos w *ℤ a) (pos w *ℤ b) (pos w *ℤ pos 1) (pos w *ℤ (b +ℤ pos 1)) one (*ℤ_comm (pos w) (pos 1) ∙ one_mulℤ (pos w)) h (mul_leℤ w (b +ℤ pos 1) a (over_one a b e)) (mul_addℤ (pos w) b (pos 1))))
    (cases_Bool (le_z a b))

sum_of_alike : {X : Type 0} (f g : X → ℤ) (xs : List X) → AllByRecursion (λ x. f x ≡ g x) xs → sum_of f xs ≡ sum_of g xs
sum_of_alike f g [] h = refl
sum_of_alike f g (x ∷ xs) (h, hs) = let r = sum_of_alike f g xs hs in omega (arith, ints, h, r)

-- the weights of a unit's mixes, as a sum over all mixes --

weight_here : (b : Bool) (w : ℕ) → cond b (pos w) (pos 0) ≡ pos (cond b w 0)
weight_here true w = refl
weight_here false w = refl

pub weighs_is : (u : ℕ) (xs : List Mix) → sum_of (λ x. only_at x.unit (pos x.weight) u) xs ≡ pos (weighs u xs)
weighs_is u [] = refl
weighs_is u (x ∷ xs) =
    let r = weighs_is u xs in
    let h = weight_here (eqb x.unit u) x.weight in
    let c = sum_by-cons (λ y. cond (eqb y.unit u) y.weight 0) x xs in
    rw (h, r, c)

-- best gains --

-- a unit with a schedule has a best gain at every row
pub schedule_best : (p : UnitModel) → SoundUnit p → (T : ℕ) (es : List Entry) → Schedule p T es → (r : Prices) → BestGain p T r (best p T r)
schedule_best p sp T es h r = by (best_gain p T r) (best_gain_law p sp T r)
  where
    by : (o : Option ℤ) → IsBest p T r o → BestGain p T r (or_zero o)
    by None none = absurd (none es h)
    by (Some g) b = b

-- and none of its schedules is owed less than nothing
pub owed_nonneg : (p : UnitModel) → SoundUnit p → (T : ℕ) (es : List Entry) → Schedule p T es → (r : Prices) → pos 0 ≤ℤ pay_of p T r es
owed_nonneg p sp T es h r = difference_nonneg (best p T r) (gain_of p r es) ((schedule_best p sp T es h r).most es h)

module _ (m : Meaning) (sound : Sound m) (T W : ℕ) (l : Ledger) (k : Kept m T W l) where
  pub ran_schedule : (u : ℕ) → Ran l u → Schedule (m.model u) T (run_of l u)
  ran_schedule u = by (l.runs u) refl
    where
      by : (o : Option (List Entry)) → l.runs u ≡ o → has o ≡ true → Schedule (m.model u) T (schedule_of o)
      by None e h = no_clash (sym h)
      by (Some es) e h = (k.ran u es e).1

  -- where unit u has a run
  pub ran_best : (u : ℕ) → Ran l u → (r : Prices) → BestGain (m.model u) T r (best (m.model u) T r)
  ran_best u h r = schedule_best (m.model u) (sound.each u) T (run_of l u) (ran_schedule u h) r

  pub ran_pay_nonneg : (u : ℕ) → Ran l u → (r : Prices) → pos 0 ≤ℤ pay_of (m.model u) T r (run_of l u)
  ran_pay_nonneg u h r = owed_nonneg (m.model u) (sound.each u) T (run_of l u) (ran_schedule u h) r

  terms_nonneg : (r : Prices) → AllByRecursion (λ x. pos 0 ≤ℤ (pos x.weight *ℤ pay_of (m.model x.unit) T r x.schedule)) l.mixes
  terms_nonneg r = All-weaker _ _ (λ x h. product_nonneg x.weight _ (owed_nonneg (m.model x.unit) (sound.each x.unit) T x.schedule h.1 r)) l.mixes k.mixed

  pub gap_nonneg : (r : Prices) → pos 0 ≤ℤ gap_at m T r l
  gap_nonneg r = sum_of_nonneg _ l.mixes (terms_nonneg r)

  -- without a gap each mix gains the best of its unit, and the other way round
  pub gap_zero : gap_at m T l.prices l ≡ pos 0 → AllBest m T l
  gap_zero e = by l.mixes k.mixed (sum_of_zero _ l.mixes (terms_nonneg l.prices) e)
    where
      by : (xs : List Mix) → AllByRecursion (λ x. (x.unit < m.units) × Schedule (m.model x.unit) T x.schedule × (1 ≤ x.weight)) xs → AllByRecursion (λ x. pos x.weight *ℤ pay_of (m.model x.unit) T l.prices x.schedule ≡ pos 0) xs → AllByRecursion (λ x. BestGain (m.model x.unit) T l.prices (gain_of (m.model x.unit) l.prices x.schedule)) xs
      by [] h z = tt
      by (x ∷ xs) (h, hs) (z, zs) =
          let p = m.model x.unit in
          let nothing = zero_factor x.weight (pay_of p T l.prices x.schedule) h.2 (owed_nonneg p (sound.each x.unit) T x.schedule h.1 l.prices) z in
          (subst (BestGain p T l.prices) (sym (difference_zero (best p T l.prices) (gain_of p l.prices x.schedule) nothing)) (schedule_best p (sound.each x.unit) T x.schedule h.1 l.prices), by xs hs zs)

  pub zero_gap : AllBest m T l → gap_at m T l.prices l ≡ pos 0
  zero_gap a = sum_of_none _ l.mixes (by l.mixes k.mixed a)
    where
      by : (xs : List Mix) → AllByRecursion (λ x. (x.unit < m.units) × Schedule (m.model x.unit) T x.schedule × (1 ≤ x.weight)) xs → AllByRecursion (λ x. BestGain (m.model x.unit) T l.prices (gain_of (m.model x.unit) l.prices x.schedule)) xs → AllByRecursion (λ x. pos x.weight *ℤ pay_of (m.model x.unit) T l.prices x.schedule ≡ pos 0) xs
      by [] h b = tt
      by (x ∷ xs) (h, hs) (b, bs) =
          let p = m.model x.unit in
          let same = best_unique p T l.prices (gain_of p l.prices x.schedule) (best p T l.prices) b (schedule_best p (sound.each x.unit) T x.schedule h.1 l.prices) in
          (ap (λ z. pos x.weight *ℤ z) (zero_difference (best p T l.prices) (gain_of p l.prices x.schedule) same) ∙ *ℤ-zero (pos x.weight), by xs hs bs)

  module _ (e : Evidence m T W l) where
    pub bests : (r : Prices) (u : ℕ) → u < m.units → BestGain (m.model u) T r (best (m.model u) T r)
    bests r u h = ran_best u (e.ran u h) r

    pub pay_nonneg : (u : ℕ) → u < m.units → pos 0 ≤ℤ pay_of (m.model u) T l.prices (run_of l u)
    pay_nonneg u h = ran_pay_nonneg u (e.ran u h) l.prices

    -- what runs cost more than mixes, W times
    extra : ℤ
    extra = pos W *ℤ sum_to m.units (λ u. cost_of (m.model u) (run_of l u)) -ℤ sum_of (λ x. pos x.weight *ℤ cost_of (m.model x.unit) x.schedule) l.mixes

    -- the central equation at any row
    balanced : (r : Prices) → pos W *ℤ uplift_at m T r l -ℤ gap_at m T r l ≡ pos r.over *ℤ extra
    unfolding extra
    balanced r =
        let b : ℕ → ℤ = λ u. best (m.model u) T r in
        let uplift = sum_to_same m.units (λ u. pay_of (m.model u) T r (run_of l u)) (λ u. b u -ℤ (sum_to T (λ t. numerator_at r t *ℤ lots_at (run_of l u) t) -ℤ pos r.over *ℤ cost_of (m.model u) (run_of l u))) (λ u h. ap (λ z. b u -ℤ z) (gain_is (m.model u) T r (run_of l u) (ran_schedule u (e.ran u h)).long)) in
        let gap = sum_of_alike (λ x. pos x.weight *ℤ pay_of (m.model x.unit) T r x.schedule) (λ x. pos x.weight *ℤ (b x.unit -ℤ (sum_to T (λ t. numerator_at r t *ℤ lots_at x.schedule t) -ℤ pos r.over *ℤ cost_of (m.model x.unit) x.schedule))) l.mixes (All-weaker _ _ (λ x h. ap (λ z. pos x.weight *ℤ (b x.unit -ℤ z)) (gain_is (m.model x.unit) T r x.schedule h.1.long)) l.mixes k.mixed) in
        ap (λ z. pos W *ℤ z -ℤ gap_at m T r l) uplift
        ∙ ap (λ z. pos W *ℤ sum_to m.units (λ u. b u -ℤ (sum_to T (λ t. numerator_at r t *ℤ lots_at (run_of l u) t) -ℤ pos r.over *ℤ cost_of (m.model u) (run_of l u))) -ℤ z) gap
        ∙ balance m.units T (pos W) (λ t. get_or l.needs t (pos 0)) (λ u t. lots_at (run_of l u) t) (λ u. cost_of (m.model u) (run_of l u))
        (λ x. x.unit) (λ x. pos x.weight) (λ x t. lots_at x.schedule t) (λ x. cost_of (m.model x.unit) x.schedule) l.mixes
        e.runs_meet (λ u h. weighs_is u l.mixes ∙ ap pos (e.whole u h)) e.mixes_meet
        (All-weaker _ (λ x. x.unit < m.units) (λ x h. h.0) l.mixes k.mixed)
        (pos r.over) (numerator_at r) b

    -- the same difference of costs at both rows
    across : (r : Prices) → pos r.over *ℤ (pos W *ℤ uplift_at m T l.prices l -ℤ gap_at m T l.prices l) ≡ pos l.prices.over *ℤ (pos W *ℤ uplift_at m T r l -ℤ gap_at m T r l)
    across r = ap (λ z. pos r.over *ℤ z) (balanced l.prices) ∙ mul_leftℤ (pos r.over) (pos l.prices.over) extra ∙ ap (λ z. pos l.prices.over *ℤ z) (sym (balanced r))

    pub every_row : (r : Prices) → (pos r.over *ℤ (pos W *ℤ uplift_at m T l.prices l -ℤ gap_at m T l.prices l)) ≤ℤ (pos l.prices.over *ℤ (pos W *ℤ uplift_at m T r l))
    every_row r = ≤-from _ _ _ _ (across r) (mul_leℤ l.prices.over _ (pos W *ℤ uplift_at m T r l) (less (pos W *ℤ uplift_at m T r l) (gap_at m T r l) (gap_nonneg r))) refl

    pub least_row : 1 ≤ W → gap_at m T l.prices l ≡ pos 0 → (r : Prices) → (pos r.over *ℤ uplift_at m T l.prices l) ≤ℤ (pos l.prices.over *ℤ uplift_at m T r l)
    least_row one none r =
        cancel W _ _ one
        (≤-from _ _ _ _ (mul_leftℤ (pos W) (pos r.over) (uplift_at m T l.prices l) ∙ ap (λ z. pos r.over *ℤ z) (sym (less_nothing (pos W *ℤ uplift_at m T l.prices l) (gap_at m T l.prices l) none))) (every_row r) (mul_leftℤ (pos l.prices.over) (pos W) (uplift_at m T r l)))
