-- The laws of the scores. Assumes nothing.
use Rattle.std.specs.Prelude.{◌≡◌, ℕ, ◌+◌, ◌*◌, ◌≤◌, suc, Bool, true, false, List, [], ◌∷◌, length, ℤ, pos, ◌+ℤ◌, ◌≤ℤ◌, int_le, unsigned_abs}
use Rattle.std.specs.List.{AllByRecursion}
use Rattle.std.proofs.Common.{ap, subst, arith, add-mul, lit<}
use Rattle.std.proofs.Math.Nat.{mul-le-mul_right}
use Rattle.std.proofs.Math.IntN.{+ℤ_assoc, +ℤ_idl, +ℤ_idr}
use Rattle.std.proofs.lemmas.Int.{ints}
use Rattle.terms.specs.Numbers.{Near}
use Rattle.terms.proofs.Bounds.{near_more, fits_64}
use Rattle.fleet.specs.Scores.{Scale, EachWithin, IsWithin, all_added, AddsExactly, Lawful, gain_limit, lots_limit, turned, gain_scale, lots_scale, lexical}

-- what is within some periods' amounts is within those of more
within_more : (j k : ℕ) (ms zs : List ℤ) → j ≤ k → EachWithin j ms zs → EachWithin k ms zs
within_more j k [] [] le h = tt
within_more j k [] (z ∷ zs) le h = h
within_more j k (m ∷ ms) [] le h = h
within_more j k (m ∷ ms) (z ∷ zs) le h = (near_more (j * unsigned_abs m) (k * unsigned_abs m) z (mul-le-mul_right (unsigned_abs m) le) h.0, within_more j k ms zs le h.1)

module _ {S : Type 0} {s : Scale S} (l : Lawful s) where
  added_fits : (xs : List S) → AllByRecursion (IsWithin s 1) xs → IsWithin s (length xs) (all_added s xs)
  added_fits [] h = l.fits_zero
  added_fits (x ∷ xs) h =
      let e : 1 + length xs ≡ suc (length xs) = omega arith in
      subst (λ k. IsWithin s k (s.add x (all_added s xs))) e (l.fits_add 1 (length xs) x (all_added s xs) h.0 (added_fits xs h.1))

  -- 48 amounts that one period may add, of any score, add exactly
  pub adds_exactly : AddsExactly s
  adds_exactly xs few h = l.exact (all_added s xs) (within_more (length xs) 48 (s.numbers s.largest) (s.numbers (all_added s xs)) few (added_fits xs h))

none_near : (k : ℕ) → Near (0 * k) (pos 0)
none_near k = record { low = omega (arith, ints); high = omega (arith, ints) }

one_near : (k : ℕ) (z : ℤ) → Near k z → Near (1 * k) z
one_near k z h = record { low = omega (arith, ints); high = omega (arith, ints) }

largest_near : (k : ℕ) → Near k (pos k)
largest_near k = record { low = omega (arith, ints); high = omega (arith, ints) }

sum_near : (k m n : ℕ) (y z : ℤ) → Near (m * k) y → Near (n * k) z → Near ((m + n) * k) (y +ℤ z)
sum_near k m n y z h i = let e = add-mul m n k in record { low = omega (arith, ints); high = omega (arith, ints) }

le_total : (a b : ℤ) → int_le a b ≡ false → int_le b a ≡ true
le_total a b h = grind (arith, ints)

le_chain : (a b c : ℤ) → int_le a b ≡ true → int_le b c ≡ true → int_le a c ≡ true
le_chain a b c h k = grind (arith, ints)

le_one : (a b : ℤ) → int_le a b ≡ true → int_le b a ≡ true → a ≡ b
le_one a b h k = grind (arith, ints)

le_left : (c a b : ℤ) → int_le a b ≡ true → int_le (c +ℤ a) (c +ℤ b) ≡ true
le_left c a b h = grind (arith, ints)

le_right : (c a b : ℤ) → int_le a b ≡ true → int_le (a +ℤ c) (b +ℤ c) ≡ true
le_right c a b h = grind (arith, ints)

le_less_left : (c a b : ℤ) → int_le b a ≡ false → int_le (c +ℤ b) (c +ℤ a) ≡ false
le_less_left c a b h = grind (arith, ints)

le_less_right : (c a b : ℤ) → int_le b a ≡ false → int_le (b +ℤ c) (a +ℤ c) ≡ false
le_less_right c a b h = grind (arith, ints)

gain_tops : (g : ℤ) → Near (1 * gain_limit) g → int_le g (pos gain_limit) ≡ true
gain_tops g h = let high = h.high in grind (arith, ints)

pub gain_lawful : Lawful gain_scale
gain_lawful = record {
  total = λ a b. le_total a.gain b.gain;
  chain = λ a b c. le_chain a.gain b.gain c.gain;
  one = λ a b h k. ap (λ g. record { gain = g }) (le_one a.gain b.gain h k);
  assoc = λ a b c. ap (λ g. record { gain = g }) (+ℤ_assoc a.gain b.gain c.gain);
  left = λ a. ap (λ g. record { gain = g }) (+ℤ_idl a.gain);
  right = λ a. ap (λ g. record { gain = g }) (+ℤ_idr a.gain);
  keeps_left = λ c a b. le_left c.gain a.gain b.gain;
  keeps_right = λ c a b. le_right c.gain a.gain b.gain;
  less_left = λ c a b. le_less_left c.gain a.gain b.gain;
  less_right = λ c a b. le_less_right c.gain a.gain b.gain;
  fits_largest = (one_near gain_limit (pos gain_limit) (largest_near gain_limit), tt);
  tops = λ a h. gain_tops a.gain h.0;
  fits_of = λ g q h. (one_near gain_limit g h.gain, tt);
  fits_zero = (none_near gain_limit, tt);
  fits_add = λ m n a b h k. (sum_near gain_limit m n a.gain b.gain h.0 k.0, tt);
  exact = λ a h. (fits_64 (48 * gain_limit) a.gain (lit< tt) h.0, tt);
}

lex_total : (a x b y : ℤ) → lexical a x b y ≡ false → lexical b y a x ≡ true
lex_total a x b y h = grind (arith, ints)

lex_chain : (a x b y c z : ℤ) → lexical a x b y ≡ true → lexical b y c z ≡ true → lexical a x c z ≡ true
lex_chain a x b y c z h k = grind (arith, ints)

lex_first : (a x b y : ℤ) → lexical a x b y ≡ true → lexical b y a x ≡ true → a ≡ b
lex_first a x b y h k = grind (arith, ints)

lex_second : (a x b y : ℤ) → lexical a x b y ≡ true → lexical b y a x ≡ true → x ≡ y
lex_second a x b y h k = grind (arith, ints)

lex_left : (c z a x b y : ℤ) → lexical a x b y ≡ true → lexical (c +ℤ a) (z +ℤ x) (c +ℤ b) (z +ℤ y) ≡ true
lex_left c z a x b y h = grind (arith, ints)

lex_right : (c z a x b y : ℤ) → lexical a x b y ≡ true → lexical (a +ℤ c) (x +ℤ z) (b +ℤ c) (y +ℤ z) ≡ true
lex_right c z a x b y h = grind (arith, ints)

lex_less_left : (c z a x b y : ℤ) → lexical b y a x ≡ false → lexical (c +ℤ b) (z +ℤ y) (c +ℤ a) (z +ℤ x) ≡ false
lex_less_left c z a x b y h = grind (arith, ints)

lex_less_right : (c z a x b y : ℤ) → lexical b y a x ≡ false → lexical (b +ℤ c) (y +ℤ z) (a +ℤ c) (x +ℤ z) ≡ false
lex_less_right c z a x b y h = grind (arith, ints)

more_tops : (g q : ℤ) → Near (1 * gain_limit) g → Near (1 * lots_limit) q → lexical g q (pos gain_limit) (pos lots_limit) ≡ true
more_tops g q h k = let a = h.high in let b = k.high in grind (arith, ints)

pub pair : {A B X : Type 0} (f : A → B → X) {a a' : A} {b b' : B} → a ≡ a' → b ≡ b' → f a b ≡ f a' b'
pair f p q = cc

turned_near : (fewer : Bool) (k : ℕ) (q : ℤ) → Near k q → Near k (turned fewer q)
turned_near false k q h = h
turned_near true k q h = record { low = omega (arith, ints); high = omega (arith, ints) }

pub lots_lawful : {n : ℕ} (fewer : Bool) → Lawful (lots_scale {n = n} fewer)
lots_lawful fewer = record {
  total = λ a b. lex_total a.gain a.rank b.gain b.rank;
  chain = λ a b c. lex_chain a.gain a.rank b.gain b.rank c.gain c.rank;
  one = λ a b h k. pair (λ g q. record { gain = g; rank = q }) (lex_first a.gain a.rank b.gain b.rank h k) (lex_second a.gain a.rank b.gain b.rank h k);
  assoc = λ a b c. pair (λ g q. record { gain = g; rank = q }) (+ℤ_assoc a.gain b.gain c.gain) (+ℤ_assoc a.rank b.rank c.rank);
  left = λ a. pair (λ g q. record { gain = g; rank = q }) (+ℤ_idl a.gain) (+ℤ_idl a.rank);
  right = λ a. pair (λ g q. record { gain = g; rank = q }) (+ℤ_idr a.gain) (+ℤ_idr a.rank);
  keeps_left = λ c a b. lex_left c.gain c.rank a.gain a.rank b.gain b.rank;
  keeps_right = λ c a b. lex_right c.gain c.rank a.gain a.rank b.gain b.rank;
  less_left = λ c a b. lex_less_left c.gain c.rank a.gain a.rank b.gain b.rank;
  less_right = λ c a b. lex_less_right c.gain c.rank a.gain a.rank b.gain b.rank;
  fits_largest = (one_near gain_limit (pos gain_limit) (largest_near gain_limit), (one_near lots_limit (pos lots_limit) (largest_near lots_limit), tt));
  tops = λ a h. more_tops a.gain a.rank h.0 h.1.0;
  fits_of = λ g q h. (one_near gain_limit g h.gain, (one_near lots_limit (turned fewer q) (turned_near fewer lots_limit q h.lots), tt));
  fits_zero = (none_near gain_limit, (none_near lots_limit, tt));
  fits_add = λ m n a b h k. (sum_near gain_limit m n a.gain b.gain h.0 k.0, (sum_near lots_limit m n a.rank b.rank h.1.0 k.1.0, tt));
  exact = λ a h. (fits_64 (48 * gain_limit) a.gain (lit< tt) h.0, (fits_64 (48 * lots_limit) a.rank (lit< tt) h.1.0, tt));
}

-- whole numbers, as the gain alone
abbrev pub int_scale : Scale ℤ
int_scale = record {
  of = λ g q. g;
  zero = pos 0;
  add = ◌+ℤ◌;
  at_most = int_le;
  largest = pos gain_limit;
  numbers = λ a. a ∷ [];
}

pub int_lawful : Lawful int_scale
int_lawful = record {
  total = le_total;
  chain = le_chain;
  one = le_one;
  assoc = +ℤ_assoc;
  left = +ℤ_idl;
  right = +ℤ_idr;
  keeps_left = le_left;
  keeps_right = le_right;
  less_left = le_less_left;
  less_right = le_less_right;
  fits_largest = (one_near gain_limit (pos gain_limit) (largest_near gain_limit), tt);
  tops = λ a h. gain_tops a h.0;
  fits_of = λ g q h. (one_near gain_limit g h.gain, tt);
  fits_zero = (none_near gain_limit, tt);
  fits_add = λ m n a b h k. (sum_near gain_limit m n a b h.0 k.0, tt);
  exact = λ a h. (fits_64 (48 * gain_limit) a (lit< tt) h.0, tt);
}

pub lexical_first : (a x b y : ℤ) → lexical a x b y ≡ true → a ≤ℤ b
lexical_first a x b y h = grind (arith, ints)

pub lexical_second : (a x b y : ℤ) → lexical a x b y ≡ true → a ≡ b → x ≤ℤ y
lexical_second a x b y h e = grind (arith, ints)
