-- Runs and mixes that bring the same totals: uplift and gap under any price row. Assumes nothing.
use Rattle.std.proofs.Common.{◌≡◌, ℕ, ◌<◌, List, ℤ, ◌-ℤ◌, ◌*ℤ◌, sym, ap, ◌∙◌, arith}
use Rattle.std.proofs.lemmas.Int.{ints}
use Rattle.std.specs.List.{AllByRecursion}
use Rattle.terms.specs.Sums.{sum_to, sum_of}
use Rattle.terms.proofs.Ints.{mul_subℤ, mul_leftℤ}
use Rattle.terms.proofs.Sums.{sum_to_same, sum_to_sub, sum_to_scale, sum_to_swap, sum_of_sub, sum_of_scale, sum_of_same, sum_of_swap}
use Rattle.terms.proofs.Places.{only_at, by_place}

-- the sums of the two last lemmas, over plain numbers
gap_sum : (G A B C E F Wb WV : ℤ) → G ≡ A -ℤ B → B ≡ C -ℤ E → E ≡ F → C ≡ WV → A ≡ Wb → G ≡ Wb -ℤ (WV -ℤ F)
gap_sum G A B C E F Wb WV p q r s t = omega (arith, ints)

balance_sum : (WU Wb WVDC WV WDC DWC G DM K : ℤ) → WU ≡ Wb -ℤ WVDC → WVDC ≡ WV -ℤ WDC → WDC ≡ DWC → G ≡ Wb -ℤ (WV -ℤ DM) → K ≡ DWC -ℤ DM → WU -ℤ G ≡ K
balance_sum WU Wb WVDC WV WDC DWC G DM K p q r s t = omega (arith, ints)

module _
    {X : Type 0} (N T : ℕ) (W : ℤ) (need : ℕ → ℤ)
    (run_out : ℕ → ℕ → ℤ) (run_cost : ℕ → ℤ)
    (unit : X → ℕ) (weight : X → ℤ) (mix_out : X → ℕ → ℤ) (mix_cost : X → ℤ) (mixes : List X)
    (runs_meet : (t : ℕ) → t < T → sum_to N (λ i. run_out i t) ≡ need t)
    (weights : (i : ℕ) → i < N → sum_of (λ x. only_at (unit x) (weight x) i) mixes ≡ W)
    (mixes_meet : (t : ℕ) → t < T → sum_of (λ x. weight x *ℤ mix_out x t) mixes ≡ W *ℤ need t)
    (known : AllByRecursion (λ x. unit x < N) mixes)
  where
    module _ (D : ℤ) (price : ℕ → ℤ) (b : ℕ → ℤ) where
      -- the needs, and a row of outputs, at the prices
      dot : (ℕ → ℤ) → ℤ
      dot q = sum_to T (λ t. price t *ℤ q t)

      runs_worth : sum_to N (λ i. dot (run_out i)) ≡ dot need
      unfolding dot
      runs_worth =
          sum_to_swap N T (λ i t. price t *ℤ run_out i t)
          ∙ sum_to_same T _ _ (λ t h. sum_to_scale N (price t) (λ i. run_out i t) ∙ ap (λ z. price t *ℤ z) (runs_meet t h))

      mixes_worth : sum_of (λ x. weight x *ℤ dot (mix_out x)) mixes ≡ W *ℤ dot need
      unfolding dot
      mixes_worth =
          sum_of_same _ (λ x. sum_to T (λ t. price t *ℤ (weight x *ℤ mix_out x t))) mixes (λ x. sym (sum_to_scale T (weight x) (λ t. price t *ℤ mix_out x t)) ∙ sum_to_same T _ _ (λ t h. mul_leftℤ (weight x) (price t) (mix_out x t)))
          ∙ sum_of_swap T (λ x t. price t *ℤ (weight x *ℤ mix_out x t)) mixes
          ∙ sum_to_same T _ _ (λ t h. sum_of_scale (price t) (λ x. weight x *ℤ mix_out x t) mixes ∙ ap (λ z. price t *ℤ z) (mixes_meet t h) ∙ mul_leftℤ (price t) W (need t))
          ∙ sum_to_scale T W (λ t. price t *ℤ need t)

      mixes_best : sum_of (λ x. weight x *ℤ b (unit x)) mixes ≡ W *ℤ sum_to N b
      mixes_best =
          sym (by_place N unit weight b mixes known)
          ∙ sum_to_same N _ _ (λ i h. ap (λ z. z *ℤ b i) (weights i h))
          ∙ sum_to_scale N W b

      abbrev run_gain : ℕ → ℤ
      run_gain i = dot (run_out i) -ℤ D *ℤ run_cost i

      abbrev mix_gain : X → ℤ
      mix_gain x = dot (mix_out x) -ℤ D *ℤ mix_cost x

      uplift_is : sum_to N (λ i. b i -ℤ run_gain i) ≡ sum_to N b -ℤ (dot need -ℤ D *ℤ sum_to N run_cost)
      uplift_is =
          let p = sum_to_sub N b run_gain in
          let q = sum_to_sub N (λ i. dot (run_out i)) (λ i. D *ℤ run_cost i) in
          let r = sum_to_scale N D run_cost in
          let s = runs_worth in
          omega (arith, ints)

      gap_is : sum_of (λ x. weight x *ℤ (b (unit x) -ℤ mix_gain x)) mixes ≡ W *ℤ sum_to N b -ℤ (W *ℤ dot need -ℤ D *ℤ sum_of (λ x. weight x *ℤ mix_cost x) mixes)
      gap_is =
          let p = sum_of_same (λ x. weight x *ℤ (b (unit x) -ℤ mix_gain x)) (λ x. weight x *ℤ b (unit x) -ℤ weight x *ℤ mix_gain x) mixes (λ x. mul_subℤ (weight x) (b (unit x)) (mix_gain x)) in
          let q = sum_of_sub (λ x. weight x *ℤ b (unit x)) (λ x. weight x *ℤ mix_gain x) mixes in
          let r = sum_of_same (λ x. weight x *ℤ mix_gain x) (λ x. weight x *ℤ dot (mix_out x) -ℤ D *ℤ (weight x *ℤ mix_cost x)) mixes (λ x. mul_subℤ (weight x) (dot (mix_out x)) (D *ℤ mix_cost x) ∙ ap (λ z. weight x *ℤ dot (mix_out x) -ℤ z) (mul_leftℤ (weight x) D (mix_cost x))) in
          let s = sum_of_sub (λ x. weight x *ℤ dot (mix_out x)) (λ x. D *ℤ (weight x *ℤ mix_cost x)) mixes in
          let t = sum_of_scale D (λ x. weight x *ℤ mix_cost x) mixes in
          gap_sum _ _ _ _ _ _ _ _ (p ∙ q) (r ∙ s) t mixes_worth mixes_best

      -- W × uplift − gap is D times a number that does not know the prices
      pub balance :
          W *ℤ sum_to N (λ i. b i -ℤ (sum_to T (λ t. price t *ℤ run_out i t) -ℤ D *ℤ run_cost i)) -ℤ sum_of (λ x. weight x *ℤ (b (unit x) -ℤ (sum_to T (λ t. price t *ℤ mix_out x t) -ℤ D *ℤ mix_cost x))) mixes
          ≡ D *ℤ (W *ℤ sum_to N run_cost -ℤ sum_of (λ x. weight x *ℤ mix_cost x) mixes)
      unfolding dot
      balance =
          let p = ap (λ z. W *ℤ z) uplift_is in
          let q = mul_subℤ W (sum_to N b) (dot need -ℤ D *ℤ sum_to N run_cost) in
          let r = mul_subℤ W (dot need) (D *ℤ sum_to N run_cost) in
          let s = mul_leftℤ W D (sum_to N run_cost) in
          let u = mul_subℤ D (W *ℤ sum_to N run_cost) (sum_of (λ x. weight x *ℤ mix_cost x) mixes) in
          balance_sum _ (W *ℤ sum_to N b) _ (W *ℤ dot need) _ _ _ (D *ℤ sum_of (λ x. weight x *ℤ mix_cost x) mixes) _ (p ∙ q) r s gap_is u
