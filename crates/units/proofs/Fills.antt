-- Lots by steps cost the prices of the first lots, and not too much. Assumes nothing.
use Rattle.std.proofs.Common.{◌≡◌, ℕ, zero, suc, ◌+◌, ◌-◌, ◌*◌, ◌<◌, ◌≤◌, min, true, List, [], ◌∷◌, ◌++◌, length, take, drop, replicate, ℤ, pos, ◌+ℤ◌, ◌*ℤ◌, ◌==◌, slice_index_or, refl, sym, ap, subst, ◌∙◌, inl, inr, le_of_suc-le-suc, add-one, arith, drop_of_length-le, drop-cons, length-append, w32, SFits}
use Rattle.std.proofs.Math.IntN.{*ℤ-zero, *ℤ_comm, suc_ℤ-*ℤ}
use Rattle.std.proofs.lemmas.Int.{ints}
use Rattle.std.proofs.lemmas.List.{length-replicate}
use Rattle.std.proofs.lemmas.Bool.{cases_Bool, and_parts, cond-true, cond-false}
use Rattle.std.specs.List.{list_all}
use Rattle.terms.specs.Numbers.{Near}
use Rattle.terms.proofs.Bounds.{near_mul, near_pos, near_add, near_more, near_test, fits_32}
use Rattle.reader.specs.declared.steps.Step.{Step}
use Rattle.reader.specs.Steps.{fair_step, fair_rest, fair_places, unused, lots_in}
use Rattle.units.specs.Fill.{fill, prices_in_order, total, FilledInOrder}

-- in order --

one_more : (p : ℤ) (m : ℕ) → p *ℤ pos (suc m) ≡ p +ℤ (p *ℤ pos m)
one_more p m =
    let a = *ℤ_comm p (pos (suc m)) in
    let b = suc_ℤ-*ℤ (pos m) p in
    let c = *ℤ_comm p (pos m) in
    omega (arith, ints)

first_lots : (p : ℤ) (rest : List ℤ) (n q : ℕ) → total (take q (replicate n p ++ rest)) ≡ (p *ℤ pos (min n q)) +ℤ total (take (q - n) rest)
first_lots p rest zero q =
    let z : p *ℤ pos 0 ≡ pos 0 = *ℤ-zero p in
    let m : 0 ≡ min 0 q = omega arith in
    let d : q ≡ q - 0 = omega arith in
    subst (λ k. total (take q rest) ≡ (p *ℤ pos k) +ℤ total (take (q - 0) rest)) m (subst (λ k. total (take q rest) ≡ (p *ℤ pos 0) +ℤ total (take k rest)) d (omega (arith, ints)))
first_lots p rest (suc n) zero =
    let z : p *ℤ pos 0 ≡ pos 0 = *ℤ-zero p in
    let m : 0 ≡ min (suc n) 0 = omega arith in
    let d : 0 ≡ 0 - suc n = omega arith in
    subst (λ k. pos 0 ≡ (p *ℤ pos k) +ℤ total (take (0 - suc n) rest)) m (subst (λ k. pos 0 ≡ (p *ℤ pos 0) +ℤ total (take k rest)) d (omega (arith, ints)))
first_lots p rest (suc n) (suc q) =
    let r = first_lots p rest n q in
    let o = one_more p (min n q) in
    let m : suc (min n q) ≡ min (suc n) (suc q) = omega arith in
    let d : q - n ≡ suc q - suc n = omega arith in
    subst (λ k. (p +ℤ total (take q (replicate n p ++ rest))) ≡ (p *ℤ pos k) +ℤ total (take (suc q - suc n) rest)) m
    (subst (λ k. (p +ℤ total (take q (replicate n p ++ rest))) ≡ (p *ℤ pos (suc (min n q))) +ℤ total (take k rest)) d (omega (arith, ints)))

none_left : (q : ℕ) → pos 0 ≡ total (take q [])
none_left zero = refl
none_left (suc q) = refl

first_filled : (ss : List Step) (q : ℕ) → fill ss q ≡ total (take q (prices_in_order ss))
first_filled [] q = none_left q
first_filled (s ∷ ss) q =
    let r = first_filled ss (q - s.lots) in
    let f = first_lots s.price (prices_in_order ss) s.lots q in
    omega (arith, ints)

all_priced : (ss : List Step) → length (prices_in_order ss) ≡ lots_in ss
all_priced [] = refl
all_priced (s ∷ ss) =
    length-append (replicate s.lots s.price) (prices_in_order ss)
    ∙ ap (λ n. n + length (prices_in_order ss)) (length-replicate s.lots s.price)
    ∙ ap (λ n. s.lots + n) (all_priced ss)

pub filled : FilledInOrder
filled = record { all = all_priced; first = first_filled }

-- bounds --

-- each price is within ±500,000
abbrev pub Cheap : List Step → Type 0
Cheap [] = Unit {0}
Cheap (s ∷ ss) = Near 500000 s.price × Cheap ss

cheap_unused : (ss : List Step) → list_all unused ss ≡ true → Cheap ss
cheap_unused [] h = tt
cheap_unused (s ∷ ss) h =
    let p = and_parts (unused s) _ h in
    (near_more 0 500000 s.price (omega arith) (near_test 0 s.price (and_parts (s.lots == 0) _ p.0).1), cheap_unused ss p.1)

cheap_step : (s : Step) → fair_step s ≡ true → Near 500000 s.price
cheap_step s h = near_test 500000 s.price (and_parts _ _ h).1

cheap_rest : (ss : List Step) → fair_rest ss ≡ true → Cheap ss
cheap_rest [] h = tt
cheap_rest (s ∷ ss) h =
    elim (cases_Bool (s.lots == 0)) [
      | inl y ↦ cheap_unused (s ∷ ss) (sym (cond-true (s.lots == 0) _ _ y) ∙ h)
      | inr z ↦ let p = and_parts (fair_step s) _ (sym (cond-false (s.lots == 0) _ _ z) ∙ h) in (cheap_step s p.0, cheap_rest ss p.1)
    ]

pub cheap : (ss : List Step) → fair_places ss ≡ true → Cheap ss
cheap [] h = tt
cheap (s ∷ ss) h = let p = and_parts (fair_step s) _ h in (cheap_step s p.0, cheap_rest ss p.1)

pub cheap_at : (ss : List Step) (i : ℕ) (d : Step) → i < length ss → Cheap ss → Near 500000 (slice_index_or ss i d).price
cheap_at [] i d l h = absurd (omega arith)
cheap_at (s ∷ ss) zero d l h = h.0
cheap_at (s ∷ ss) (suc i) d l h = cheap_at ss i d (le_of_suc-le-suc l) h.1

pub fill_near : (ss : List Step) (q : ℕ) → Cheap ss → Near (500000 * q) (fill ss q)
fill_near [] q h = record { low = omega (arith, ints); high = omega (arith, ints) }
fill_near (s ∷ ss) q h =
    let m = min s.lots q in
    let a = near_mul 500000 m s.price (pos m) h.0 (near_pos m m (omega arith)) in
    let b = fill_near ss (q - s.lots) h.1 in
    let e : 500000 * m + 500000 * (q - s.lots) ≡ 500000 * q = omega arith in
    subst (λ k. Near k (fill (s ∷ ss) q)) e (near_add (500000 * m) (500000 * (q - s.lots)) (s.price *ℤ pos m) (fill ss (q - s.lots)) a b)

pub fill_small : (ss : List Step) (q : ℕ) → q ≤ 500 → fair_places ss ≡ true → Near 250000000 (fill ss q)
fill_small ss q l h = near_more (500000 * q) 250000000 (fill ss q) (omega arith) (fill_near ss q (cheap ss h))

-- the loop over the steps --

pub record Filling (ss : List Step) (q i rest : ℕ) (cost : ℤ) : Type 0 where
  pub left : rest ≤ q
  pub near : Near (500000 * (q - rest)) cost
  pub sums : fill ss q ≡ cost +ℤ fill (drop i ss) rest

pub filling_start : (ss : List Step) (q : ℕ) → Filling ss q 0 q (pos 0)
filling_start ss q = record { left = omega arith; near = record { low = omega (arith, ints); high = omega (arith, ints) }; sums = omega (arith, ints) }

fill_step : (ss : List Step) (i q : ℕ) (d : Step) → i < length ss → fill (drop i ss) q ≡ ((slice_index_or ss i d).price *ℤ pos (min (slice_index_or ss i d).lots q)) +ℤ fill (drop (i + 1) ss) (q - (slice_index_or ss i d).lots)
fill_step ss i q d l = rw (drop-cons ss i d l, add-one i)

pub filling_more : (ss : List Step) (q i rest part : ℕ) (cost result : ℤ) (d : Step) → i < length ss → Cheap ss → Filling ss q i rest cost → part ≡ min (slice_index_or ss i d).lots rest → result ≡ (slice_index_or ss i d).price *ℤ pos part →
    Filling ss q (i + 1) (rest - part) (cost +ℤ result)
filling_more ss q i rest part cost result d l h f e g =
    let le = f.left in
    let s = slice_index_or ss i d in
    let st = fill_step ss i rest d l in
    let m : rest - part ≡ rest - s.lots = omega arith in
    let a = near_mul 500000 part s.price (pos part) (cheap_at ss i d l h) (near_pos part part (omega arith)) in
    let k : 500000 * (q - rest) + 500000 * part ≡ 500000 * (q - (rest - part)) = omega arith in
    let sums = f.sums in
    subst (λ z. Filling ss q (i + 1) (rest - part) (cost +ℤ z)) (sym g)
    record {
      left = omega arith;
      near = subst (λ n. Near n (cost +ℤ (s.price *ℤ pos part))) k (near_add (500000 * (q - rest)) (500000 * part) cost (s.price *ℤ pos part) f.near a);
      sums = subst (λ n. fill ss q ≡ (cost +ℤ (s.price *ℤ pos part)) +ℤ fill (drop (i + 1) ss) n) (sym m)
          (subst (λ n. fill ss q ≡ (cost +ℤ (s.price *ℤ pos n)) +ℤ fill (drop (i + 1) ss) (rest - s.lots)) (sym e) (omega (arith, ints)));
    }

pub filling_fits : (ss : List Step) (q i rest : ℕ) (cost : ℤ) → q ≤ 500 → Filling ss q i rest cost → SFits w32 cost
filling_fits ss q i rest cost l f = fits_32 (500000 * (q - rest)) cost (omega arith) f.near

pub filling_end : (ss : List Step) (q i rest : ℕ) (cost : ℤ) → length ss ≤ i → Filling ss q i rest cost → cost ≡ fill ss q
filling_end ss q i rest cost l f =
    let e = ap (λ xs. fill xs rest) (drop_of_length-le ss l) in
    let s = f.sums in
    omega (arith, ints)
