-- A numeral's text and its value fix each other.
use Rattle.std.proofs.Common.{◌≡◌, ℕ, zero, suc, ◌+◌, ◌-◌, ◌*◌, ◌^◌, ◌<◌, ◌≤◌, true, false, List, [], ◌∷◌, length, get_or, ℤ, pos, negsuc, neg_ℤ, Some, None, decimal, Option, sym, refl, ap, ◌∙◌, subst, ⊎_elim, arith, rules}
use Rattle.std.specs.Fmt.{signed_decimal}
use Rattle.std.specs.Str.{all_ascii_digits}
use Rattle.std.specs.Char.{is_ascii_digit}
use Rattle.std.specs.Prelude.{nat_abs, nat_lt, nat_le, ◌==◌, ◌&&◌}
use Rattle.std.proofs.lemmas.Str.Parse.{IsNumeralModel, numerals_by_fold, digits_value_short}
use Rattle.std.proofs.lemmas.Fmt.{digits_decimal, digits_value-decimal, decimal-digits_value, length-decimal-le, first_decimal, decimal_digit}
use Rattle.std.proofs.lemmas.Bool.{cond-true, cond-false, and_parts, and_from, lt-ltb, le-leb, le-ltb, ltb-true, leb-true, eqb-true, ne_eqb, cases_Bool, both_ways}
use Rattle.std.proofs.lemmas.Bool.Decides.{nat_tests}
use Rattle.std.proofs.lemmas.Option.{same_Some}
use Rattle.words.specs.Classes.{is_bracket}
use Rattle.words.specs.Grammar.{is_bracket_text}
use Rattle.words.specs.Numerals.{digits_from, natural_of, value_of, signed_by, signed_of, is_zero}
use Rattle.words.specs.WordLaws.{NumeralLaw}

abbrev read_on : ℕ → List ℕ → ℕ
read_on n [] = n
read_on n (c ∷ cs) = read_on (n * 10 + (c - 48)) cs

own : IsNumeralModel (λ ds. all_ascii_digits ds ≡ true) (read_on 0)
own = numerals_by_fold _ (search rules) read_on (search rules)

nothing : {A : Type 0} {X : Type 0} (a : A) → ◌≡◌ {A = Option A} None (Some a) → X
nothing a e = let z : ◌≡◌ {A = ℕ} 0 1 = cc in absurd (omega arith)

digits_all : (ds : List ℕ) (n : ℕ) → all_ascii_digits ds ≡ true → digits_from n ds ≡ Some (read_on n ds)
digits_all [] n e = refl
digits_all (d ∷ ds) n e = let p = and_parts _ _ e in cond-true _ _ _ p.0 ∙ digits_all ds (n * 10 + (d - 48)) p.1

digits_some : (ds : List ℕ) (k n : ℕ) → digits_from k ds ≡ Some n → (all_ascii_digits ds ≡ true) × (read_on k ds ≡ n)
digits_some [] k n e = (refl, same_Some k n e)
digits_some (d ∷ ds) k n e =
    ⊎_elim
    (λ (t : is_ascii_digit d ≡ true). let p = digits_some ds (k * 10 + (d - 48)) n (sym (cond-true _ _ _ t) ∙ e) in (and_from _ _ t p.0, p.1))
    (λ (f : is_ascii_digit d ≡ false). nothing n (sym (cond-false _ _ _ f) ∙ e))
    (cases_Bool (is_ascii_digit d))

natural_decimal : (n : ℕ) → 0 < n → n < 10 ^ 10 → natural_of (decimal n) ≡ Some n
natural_decimal n h m =
    cond-true _ _ _ (and_from _ _ (lt-ltb _ _ (first_decimal n h (omega arith))) (le-leb _ _ (length-decimal-le 10 n (omega arith) m (omega arith))))
    ∙ digits_all (decimal n) 0 (digits_decimal own n (omega arith)) ∙ ap Some (digits_value-decimal own n (omega arith))

-- digits that say a number are what is written of it
pub record Says (ds : List ℕ) (n : ℕ) : Type 0 where
  pub text : decimal n ≡ ds
  pub some : 0 < n
  pub short : n < 10 ^ 10

first_zero : get_or (decimal 0) 0 0 ≡ 48
first_zero = ap (λ l. get_or l 0 0) (decimal_digit 0 (omega arith))

natural_says : (ds : List ℕ) (n : ℕ) → 48 < get_or ds 0 0 → length ds ≤ 10 → digits_from 0 ds ≡ Some n → Says ds n
natural_says [] n h l e = absurd (omega arith)
natural_says (d ∷ ds) n h l e =
    let p = digits_some (d ∷ ds) 0 n e in
    let few : read_on 0 (d ∷ ds) < 10 ^ 10 = digits_value_short own (d ∷ ds) 10 p.0 l in
    let t : decimal (read_on 0 (d ∷ ds)) ≡ d ∷ ds = decimal-digits_value own (d ∷ ds) p.0 (omega arith) (λ z. absurd (omega arith)) (omega arith) in
    let u : decimal n ≡ d ∷ ds = ap decimal (sym p.1) ∙ t in
    record { text = u; some = positive n d ds u h; short = subst (λ k. k < 10 ^ 10) p.1 few }
  where
    positive : (n d : ℕ) (ds : List ℕ) → decimal n ≡ d ∷ ds → 48 < d → 0 < n
    positive zero d ds u h = absurd (let z : 48 ≡ d = sym first_zero ∙ ap (λ l. get_or l 0 0) u in omega arith)
    positive (suc n) d ds u h = omega arith

pub natural_text : (ds : List ℕ) (n : ℕ) → natural_of ds ≡ Some n → Says ds n
natural_text ds n e =
    ⊎_elim
    (λ t.
    let p = and_parts (nat_lt 48 (get_or ds 0 0)) (nat_le (length ds) 10) t in
    natural_says ds n (ltb-true _ _ p.0) (leb-true _ _ p.1) (sym (cond-true _ _ _ t) ∙ e))
    (λ f. nothing n (sym (cond-false _ _ _ f) ∙ e))
    (cases_Bool (nat_lt 48 (get_or ds 0 0) && nat_le (length ds) 10))

plain_sign : (ds : List ℕ) → 48 < get_or ds 0 0 → value_of ds ≡ signed_by pos (natural_of ds)
plain_sign [] h = absurd (omega arith)
plain_sign (b ∷ []) h = let g : 48 < b = h in cond-false _ _ _ (ne_eqb b 48 (λ e. omega arith)) ∙ cond-false _ _ _ (ne_eqb b 45 (λ e. omega arith))
plain_sign (b ∷ d ∷ ds) h = let g : 48 < b = h in cond-false _ _ _ (ne_eqb b 45 (λ e. omega arith))

minus_sign : (ds : List ℕ) → value_of (45 ∷ ds) ≡ signed_by (λ n. neg_ℤ (pos n)) (natural_of ds)
minus_sign [] = refl
minus_sign (d ∷ ds) = refl

-- a number's text says that number
pub value_decimal : (z : ℤ) → nat_abs z < 10 ^ 10 → value_of (signed_decimal z) ≡ Some z
value_decimal (pos zero) h = ap value_of (decimal_digit 0 (omega arith))
value_decimal (pos (suc n)) h =
    let m : suc n < 10 ^ 10 = h in
    plain_sign (decimal (suc n)) (first_decimal (suc n) (omega arith) (omega arith)) ∙ ap (signed_by pos) (natural_decimal (suc n) (omega arith) m)
value_decimal (negsuc n) h =
    let m : suc n < 10 ^ 10 = h in
    minus_sign (decimal (suc n)) ∙ ap (signed_by (λ n. neg_ℤ (pos n))) (natural_decimal (suc n) (omega arith) m)

minus_text : (ds : List ℕ) (o : Option ℕ) (z : ℤ) → natural_of ds ≡ o → signed_by (λ n. neg_ℤ (pos n)) o ≡ Some z → signed_decimal z ≡ 45 ∷ ds
minus_text ds None z f e = nothing z e
minus_text ds (Some zero) z f e = absurd (let s = (natural_text ds 0 f).some in omega arith)
minus_text ds (Some (suc n)) z f e = ap signed_decimal (sym (same_Some (negsuc n) z e)) ∙ ap (λ l. 45 ∷ l) (natural_text ds (suc n) f).text

plain_text : (ds : List ℕ) (o : Option ℕ) (z : ℤ) → natural_of ds ≡ o → signed_by pos o ≡ Some z → signed_decimal z ≡ ds
plain_text ds None z f e = nothing z e
plain_text ds (Some n) z f e = ap signed_decimal (sym (same_Some (pos n) z e)) ∙ (natural_text ds n f).text

signed_text : (t : List ℕ) (z : ℤ) → signed_of t ≡ Some z → signed_decimal z ≡ t
signed_text [] z e = nothing z e
signed_text (b ∷ ds) z e =
    ⊎_elim
    (λ (t : (b == 45) ≡ true). minus_text ds (natural_of ds) z refl (sym (cond-true _ _ _ t) ∙ e) ∙ ap (λ c. c ∷ ds) (sym (eqb-true b 45 t)))
    (λ (f : (b == 45) ≡ false). plain_text (b ∷ ds) (natural_of (b ∷ ds)) z refl (sym (cond-false _ _ _ f) ∙ e))
    (cases_Bool (b == 45))

zero_text : (t : List ℕ) → is_zero t ≡ true → t ≡ 48 ∷ []
zero_text [] e = absurd (both_ways _ refl e)
zero_text (b ∷ []) e = ap (λ c. c ∷ []) (eqb-true b 48 e)
zero_text (b ∷ c ∷ bs) e = absurd (both_ways _ refl e)

-- a text that says a number is that number's
pub decimal_value : (t : List ℕ) (z : ℤ) → value_of t ≡ Some z → signed_decimal z ≡ t
decimal_value t z e =
    ⊎_elim
    (λ (y : is_zero t ≡ true). ap signed_decimal (sym (same_Some (pos 0) z (sym (cond-true _ _ _ y) ∙ e))) ∙ decimal_digit 0 (omega arith) ∙ sym (zero_text t y))
    (λ (f : is_zero t ≡ false). signed_text t z (sym (cond-false _ _ _ f) ∙ e))
    (cases_Bool (is_zero t))

natural_short : (o : Option ℕ) (f : ℕ → ℤ) (z : ℤ) → ((n : ℕ) → nat_abs (f n) ≡ n) → ((n : ℕ) → o ≡ Some n → n < 10 ^ 10) → signed_by f o ≡ Some z → nat_abs z < 10 ^ 10
natural_short None f z a h e = nothing z e
natural_short (Some n) f z a h e = subst (λ k. k < 10 ^ 10) (sym (a n) ∙ ap nat_abs (same_Some (f n) z e)) (h n refl)

minus_size : (n : ℕ) → nat_abs (neg_ℤ (pos n)) ≡ n
minus_size zero = refl
minus_size (suc n) = refl

signed_short : (t : List ℕ) (z : ℤ) → signed_of t ≡ Some z → nat_abs z < 10 ^ 10
signed_short [] z e = nothing z e
signed_short (b ∷ ds) z e =
    ⊎_elim
    (λ (t : (b == 45) ≡ true). natural_short (natural_of ds) (λ n. neg_ℤ (pos n)) z minus_size (λ n f. (natural_text ds n f).short) (sym (cond-true _ _ _ t) ∙ e))
    (λ (f : (b == 45) ≡ false). natural_short (natural_of (b ∷ ds)) pos z (λ n. refl) (λ n g. (natural_text (b ∷ ds) n g).short) (sym (cond-false _ _ _ f) ∙ e))
    (cases_Bool (b == 45))

-- a numeral says a number of at most ten digits
value_short : (t : List ℕ) (z : ℤ) → value_of t ≡ Some z → nat_abs z < 10 ^ 10
value_short t z e =
    ⊎_elim
    (λ (y : is_zero t ≡ true). subst (λ k. nat_abs k < 10 ^ 10) (same_Some (pos 0) z (sym (cond-true _ _ _ y) ∙ e)) (let h : 0 < 10 ^ 10 = omega arith in h))
    (λ (f : is_zero t ≡ false). signed_short t z (sym (cond-false _ _ _ f) ∙ e))
    (cases_Bool (is_zero t))

pub numeral_law : NumeralLaw
numeral_law = record { value = λ t z. ((λ e. (sym (decimal_value t z e), value_short t z e)), (λ h. ap value_of h.0 ∙ value_decimal z h.1)) }

digit_no_bracket : (c : ℕ) → is_ascii_digit c ≡ true → is_bracket c ≡ false
digit_no_bracket c e = grind (arith, nat_tests)

digits_no_bracket : (ds : List ℕ) → all_ascii_digits ds ≡ true → is_bracket_text ds ≡ false
digits_no_bracket [] e = refl
digits_no_bracket (d ∷ ds) e = digit_no_bracket d (and_parts _ _ e).0

pub decimal_no_bracket : (z : ℤ) → nat_abs z < 10 ^ 10 → is_bracket_text (signed_decimal z) ≡ false
decimal_no_bracket (pos n) h = let m : n < 10 ^ 10 = h in digits_no_bracket (decimal n) (digits_decimal own n (omega arith))
decimal_no_bracket (negsuc n) h = refl

bracket_low : (b : ℕ) → is_bracket b ≡ true → b < 45
bracket_low b e = grind (arith, nat_tests)

no_natural : (b : ℕ) (ds : List ℕ) → b < 45 → natural_of (b ∷ ds) ≡ None
no_natural b ds h = cond-false _ _ _ (ap (λ t. t && nat_le (length (b ∷ ds)) 10) (le-ltb 48 b (omega arith)))

bracket_value : (b : ℕ) (ds : List ℕ) → b < 45 → value_of (b ∷ ds) ≡ None
bracket_value b [] h = cond-false _ _ _ (ne_eqb b 48 (λ e. omega arith)) ∙ cond-false _ _ _ (ne_eqb b 45 (λ e. omega arith)) ∙ ap (signed_by pos) (no_natural b [] h)
bracket_value b (d ∷ ds) h = cond-false _ _ _ (ne_eqb b 45 (λ e. omega arith)) ∙ ap (signed_by pos) (no_natural b (d ∷ ds) h)

-- a numeral is no bracket
pub value_no_bracket : (t : List ℕ) (z : ℤ) → value_of t ≡ Some z → is_bracket_text t ≡ false
value_no_bracket [] z e = refl
value_no_bracket (b ∷ ds) z e =
    ⊎_elim
    (λ (y : is_bracket b ≡ true). nothing z (sym (bracket_value b ds (bracket_low b y)) ∙ e))
    (λ f. f)
    (cases_Bool (is_bracket b))
