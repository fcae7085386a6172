-- What a score stands for, its laws, and the scores. Assumes nothing.
use Rattle.std.specs.Prelude.{◌≡◌, ℕ, ◌+◌, ◌*◌, ◌≤◌, Bool, true, false, cond, List, [], ◌∷◌, length, ℤ, pos, ◌+ℤ◌, neg_ℤ, int_le, int_lt, unsigned_abs, FitsSigned}
use Rattle.std.specs.Int.{w64}
use Rattle.std.specs.List.{AllByRecursion}
use Rattle.terms.specs.Numbers.{Near}
use Rattle.fleet.specs.declared.scores.Gain.{Gain}
use Rattle.fleet.specs.declared.scores.ByLots.{ByLots}

pub record Scale (S : Type 0) : Type 1 where
  -- the score of an entry's gain and lots
  pub of : ℤ → ℤ → S
  pub zero : S
  pub add : S → S → S
  pub at_most : S → S → Bool
  -- the largest amount that one period may add
  pub largest : S
  -- the whole numbers that a score is made of
  pub numbers : S → List ℤ

-- each number is no further from zero than k times the one in its place
abbrev pub EachWithin : ℕ → List ℤ → List ℤ → Type 0
EachWithin k [] [] = Unit {0}
EachWithin k [] (z ∷ zs) = ⊥
EachWithin k (m ∷ ms) [] = ⊥
EachWithin k (m ∷ ms) (z ∷ zs) = Near (k * unsigned_abs m) z × EachWithin k ms zs

-- a score is no further from zero than k times the largest amount that one period may add
abbrev pub IsWithin : {S : Type 0} → Scale S → ℕ → S → Type 0
IsWithin s k a = EachWithin k (s.numbers s.largest) (s.numbers a)

-- signed 64 bits hold each of its numbers
abbrev pub Exact : {S : Type 0} → Scale S → S → Type 0
Exact s a = AllByRecursion (FitsSigned w64) (s.numbers a)

-- what amounts come to
abbrev pub all_added : {S : Type 0} → Scale S → List S → S
all_added s [] = s.zero
all_added s (x ∷ xs) = s.add x (all_added s xs)

-- amounts that one period may add, up to 48 of them, add exactly
abbrev pub AddsExactly : {S : Type 0} → Scale S → Type 0
AddsExactly {S} s = (xs : List S) → length xs ≤ 48 → AllByRecursion (IsWithin s 1) xs → Exact s (all_added s xs)

-- what at most k such amounts come to
pub record Summed {S : Type 0} (s : Scale S) (k : ℕ) (x : S) : Type 0 where
  pub amounts : List S
  pub few : length amounts ≤ k
  pub each : AllByRecursion (IsWithin s 1) amounts
  pub sum : all_added s amounts ≡ x

-- how far an entry's gain and lots can be from zero at a checked price row
abbrev pub gain_limit : ℕ
gain_limit = 1000000000000

abbrev pub lots_limit : ℕ
lots_limit = 500

pub record Amount (g q : ℤ) : Type 0 where
  pub gain : Near gain_limit g
  pub lots : Near lots_limit q

pub record Lawful {S : Type 0} (s : Scale S) : Type 0 where
  pub total : (a b : S) → s.at_most a b ≡ false → s.at_most b a ≡ true
  pub chain : (a b c : S) → s.at_most a b ≡ true → s.at_most b c ≡ true → s.at_most a c ≡ true
  pub one : (a b : S) → s.at_most a b ≡ true → s.at_most b a ≡ true → a ≡ b
  pub assoc : (a b c : S) → s.add (s.add a b) c ≡ s.add a (s.add b c)
  pub left : (a : S) → s.add s.zero a ≡ a
  pub right : (a : S) → s.add a s.zero ≡ a
  -- adding the same to both sides keeps the order: at most
  pub keeps_left : (c a b : S) → s.at_most a b ≡ true → s.at_most (s.add c a) (s.add c b) ≡ true
  pub keeps_right : (c a b : S) → s.at_most a b ≡ true → s.at_most (s.add a c) (s.add b c) ≡ true
  -- and less, which is not at most the other way round
  pub less_left : (c a b : S) → s.at_most b a ≡ false → s.at_most (s.add c b) (s.add c a) ≡ false
  pub less_right : (c a b : S) → s.at_most b a ≡ false → s.at_most (s.add b c) (s.add a c) ≡ false
  -- one period may add the largest amount, and none that is larger; its entry's gain and lots are no more
  pub fits_largest : IsWithin s 1 s.largest
  pub tops : (a : S) → IsWithin s 1 a → s.at_most a s.largest ≡ true
  pub fits_of : (g q : ℤ) → Amount g q → IsWithin s 1 (s.of g q)
  -- as often as periods add, as often the largest amount
  pub fits_zero : IsWithin s 0 s.zero
  pub fits_add : (m n : ℕ) (a b : S) → IsWithin s m a → IsWithin s n b → IsWithin s (m + n) (s.add a b)
  pub exact : (a : S) → IsWithin s 48 a → Exact s a

abbrev pub gain_scale : Scale Gain
gain_scale = record {
  of = λ g q. record { gain = g };
  zero = record { gain = pos 0 };
  add = λ a b. record { gain = a.gain +ℤ b.gain };
  at_most = λ a b. int_le a.gain b.gain;
  largest = record { gain = pos gain_limit };
  numbers = λ a. a.gain ∷ [];
}

-- by the first number, then by the second
abbrev pub lexical : ℤ → ℤ → ℤ → ℤ → Bool
lexical a x b y = cond (int_lt a b) true (cond (int_lt b a) false (int_le x y))

-- lots as they rank: where fewer are better, they count negative
abbrev pub turned : Bool → ℤ → ℤ
turned false q = q
turned true q = neg_ℤ q

-- the gain, and among equal gains more lots, or fewer
abbrev pub lots_scale : {n : ℕ} → Bool → Scale (ByLots n)
lots_scale fewer = record {
  of = λ g q. record { gain = g; rank = turned fewer q };
  zero = record { gain = pos 0; rank = pos 0 };
  add = λ a b. record { gain = a.gain +ℤ b.gain; rank = a.rank +ℤ b.rank };
  at_most = λ a b. lexical a.gain a.rank b.gain b.rank;
  largest = record { gain = pos gain_limit; rank = pos lots_limit };
  numbers = λ a. a.gain ∷ a.rank ∷ [];
}

-- the two types of it: FEWER is false, which counts as 0, or true, which counts as 1
abbrev pub MoreLots : Type 0
MoreLots = ByLots 0

abbrev pub FewerLots : Type 0
FewerLots = ByLots 1
