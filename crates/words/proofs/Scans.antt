-- Digits read one by one.
use Rattle.std.proofs.Common.{◌≡◌, ℕ, ◌+◌, ◌-◌, ◌*◌, ◌^◌, ◌<◌, ◌≤◌, List, [], ◌∷◌, length, get_or, drop, Some, None, ◌∙◌, arith, lit<, pow-add}
use native.Mathlib.Nat.{pow-le-pow_right}
use Rattle.std.proofs.lemmas.List.{at_drop_more, at_drop_all}
use Rattle.std.proofs.lemmas.Bool.{cond-true, cond-false, and_from, and_left, and_right, le-leb, lt-leb}
use Rattle.words.specs.Numerals.{digits_from}

module _ (ds : List ℕ) (i n : ℕ) where
  pub digits_more : i < length ds → 48 ≤ get_or ds i 0 → get_or ds i 0 ≤ 57 → digits_from n (drop i ds) ≡ digits_from (n * 10 + (get_or ds i 0 - 48)) (drop (i + 1) ds)
  digits_more h lo hi = at_drop_more (digits_from n) ds i 0 h ∙ cond-true _ _ _ (and_from _ _ (le-leb _ _ lo) (le-leb _ _ hi))

  pub digits_low : i < length ds → get_or ds i 0 < 48 → digits_from n (drop i ds) ≡ None
  digits_low h lo = at_drop_more (digits_from n) ds i 0 h ∙ cond-false _ _ _ (and_left _ _ (lt-leb _ _ lo))

  pub digits_high : i < length ds → 57 < get_or ds i 0 → digits_from n (drop i ds) ≡ None
  digits_high h hi = at_drop_more (digits_from n) ds i 0 h ∙ cond-false _ _ _ (and_right _ _ (lt-leb _ _ hi))

  pub digits_end : length ds ≤ i → digits_from n (drop i ds) ≡ Some n
  digits_end h = at_drop_all (digits_from n) ds i h

pub tens : (i : ℕ) → 10 ^ (i + 1) ≡ 10 ^ i * 10
tens i = pow-add 10 i 1

pub tens_most : (i : ℕ) → i ≤ 10 → 10 ^ i ≤ 10 ^ 10
tens_most i h = pow-le-pow_right (lit< tt) h

pub first_high : (ds : List ℕ) → 57 < get_or ds 0 0 → digits_from 0 ds ≡ None
first_high [] h = absurd (omega arith)
first_high (d ∷ ds) h = cond-false _ _ _ (and_right _ _ (lt-leb _ _ h))
