-- Which bytes are what.
use Rattle.std.proofs.Common.{◌≡◌, ◌⊎◌, ℕ, true, arith}
use Rattle.std.specs.Prelude.{◌≢◌}
use Rattle.std.proofs.lemmas.Bool.Decides.{nat_tests}
use Rattle.words.specs.Classes.{is_foreign, is_blank, is_bracket, is_joined}
use Rattle.words.specs.WordLaws.{IsKnown, BytesLaw}

blank_is : (b : ℕ) → is_blank b ≡ true → b ≡ 32
blank_is b e = grind (arith, nat_tests)

blank_of : (b : ℕ) → b ≡ 32 → is_blank b ≡ true
blank_of b e = grind (arith, nat_tests)

bracket_is : (b : ℕ) → is_bracket b ≡ true → (b ≡ 40) ⊎ (b ≡ 41)
bracket_is b e = grind (arith, nat_tests)

bracket_of : (b : ℕ) → (b ≡ 40) ⊎ (b ≡ 41) → is_bracket b ≡ true
bracket_of b e = grind (arith, nat_tests)

foreign_is : (b : ℕ) → is_foreign b ≡ true → IsKnown b → ⊥
foreign_is b e k = grind (arith, nat_tests)

foreign_of : (b : ℕ) → (IsKnown b → ⊥) → is_foreign b ≡ true
foreign_of b k = grind (arith, nat_tests)

joined_is : (b : ℕ) → is_joined b ≡ true → (b ≢ 32) × (b ≢ 40) × (b ≢ 41)
joined_is b e = ((λ z. grind (arith, nat_tests)), (λ z. grind (arith, nat_tests)), (λ z. grind (arith, nat_tests)))

joined_of : (b : ℕ) → (b ≢ 32) × (b ≢ 40) × (b ≢ 41) → is_joined b ≡ true
joined_of b (h, j, k) = grind (arith, nat_tests)

pub bytes_law : BytesLaw
bytes_law =
    record {
      blank = λ b. (blank_is b, blank_of b);
      bracket = λ b. (bracket_is b, bracket_of b);
      foreign = λ b. (foreign_is b, foreign_of b);
      joined = λ b. (joined_is b, joined_of b);
    }
