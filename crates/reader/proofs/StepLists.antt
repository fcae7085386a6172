-- Steps that are padded with unused places, and the loop over their lots. Assumes nothing.
use Rattle.std.proofs.Common.{◌≡◌, ℕ, zero, suc, ◌+◌, ◌-◌, ◌<◌, ◌≤◌, true, ◌&&◌, List, [], ◌∷◌, ◌++◌, length, drop, replicate, ◌==◌, nat_le, slice_index_or, ap, ◌∙◌, sym, inl, inr, refl, le_of_suc-le-suc, add-one, arith, drop_of_length-le, drop-cons}
use Rattle.std.specs.List.{list_all}
use Rattle.std.proofs.lemmas.Bool.{cases_Bool, and_parts, and_from, cond-true, cond-false, leb-true, eqb-true, ne_eqb, true≢false}
use Rattle.reader.specs.declared.steps.Step.{Step}
use Rattle.reader.specs.Steps.{fair_step, fair_steps, fair_list, fair_rest, fair_places, lots_in, no_step, unused}

some_lots : (s : Step) → fair_step s ≡ true → (1 ≤ s.lots) × (s.lots ≤ 500)
some_lots s h =
    let p = and_parts (nat_le 1 s.lots && nat_le s.lots 500) _ h in
    let q = and_parts (nat_le 1 s.lots) _ p.0 in
    (leb-true 1 s.lots q.0, leb-true s.lots 500 q.1)

no_more : (n : ℕ) → list_all unused (replicate n no_step) ≡ true
no_more zero = refl
no_more (suc n) = no_more n

none_unused : (n : ℕ) → fair_rest (replicate n no_step) ≡ true
none_unused zero = refl
none_unused (suc n) = no_more n

rest_padded : (ss : List Step) (n : ℕ) → fair_steps ss ≡ true → fair_rest (ss ++ replicate n no_step) ≡ true
rest_padded [] n h = none_unused n
rest_padded (s ∷ ss) n h =
    let p = and_parts (fair_step s) _ h in
    let l = (some_lots s p.0).0 in
    cond-false (s.lots == 0) _ _ (ne_eqb s.lots 0 (λ e. omega arith)) ∙ and_from (fair_step s) _ p.0 (rest_padded ss n p.1)

-- a fair list, padded, is fair
pub fair_padded : (ss : List Step) → fair_list ss ≡ true → fair_places (ss ++ replicate (4 - length ss) no_step) ≡ true
fair_padded [] h = absurd (true≢false (sym h))
fair_padded (s ∷ ss) h =
    let p = and_parts (nat_le 1 (length (s ∷ ss)) && nat_le (length (s ∷ ss)) 4) _ h in
    let q = and_parts (fair_step s) _ p.1 in
    and_from (fair_step s) _ q.0 (rest_padded ss (4 - length (s ∷ ss)) q.1)

few_unused : (ss : List Step) (i : ℕ) (d : Step) → i < length ss → list_all unused ss ≡ true → (slice_index_or ss i d).lots ≤ 500
few_unused [] i d l h = absurd (omega arith)
few_unused (s ∷ ss) zero d l h = let z = eqb-true s.lots 0 (and_parts (s.lots == 0) _ (and_parts (unused s) _ h).0).0 in omega arith
few_unused (s ∷ ss) (suc i) d l h = few_unused ss i d (le_of_suc-le-suc l) (and_parts (unused s) _ h).1

few_rest : (ss : List Step) (i : ℕ) (d : Step) → i < length ss → fair_rest ss ≡ true → (slice_index_or ss i d).lots ≤ 500
few_rest [] i d l h = absurd (omega arith)
few_rest (s ∷ ss) zero d l h =
    elim (cases_Bool (s.lots == 0)) [
      | inl y ↦ few_unused (s ∷ ss) zero d l (sym (cond-true (s.lots == 0) _ _ y) ∙ h)
      | inr z ↦ (some_lots s (and_parts (fair_step s) _ (sym (cond-false (s.lots == 0) _ _ z) ∙ h)).0).1
    ]
few_rest (s ∷ ss) (suc i) d l h =
    elim (cases_Bool (s.lots == 0)) [
      | inl y ↦ few_unused (s ∷ ss) (suc i) d l (sym (cond-true (s.lots == 0) _ _ y) ∙ h)
      | inr z ↦ few_rest ss i d (le_of_suc-le-suc l) (and_parts (fair_step s) _ (sym (cond-false (s.lots == 0) _ _ z) ∙ h)).1
    ]

-- no place has more than 500 lots
pub few_lots : (ss : List Step) (i : ℕ) (d : Step) → i < length ss → fair_places ss ≡ true → (slice_index_or ss i d).lots ≤ 500
few_lots [] i d l h = absurd (omega arith)
few_lots (s ∷ ss) zero d l h = (some_lots s (and_parts (fair_step s) _ h).0).1
few_lots (s ∷ ss) (suc i) d l h = few_rest ss i d (le_of_suc-le-suc l) (and_parts (fair_step s) _ h).1

pub lots_more : (ss : List Step) (i : ℕ) (d : Step) → i < length ss → lots_in (drop i ss) ≡ (slice_index_or ss i d).lots + lots_in (drop (i + 1) ss)
lots_more ss i d l = rw (drop-cons ss i d l, add-one i)

pub lots_none : (ss : List Step) (i : ℕ) → length ss ≤ i → lots_in (drop i ss) ≡ 0
lots_none ss i l = ap lots_in (drop_of_length-le ss l)
