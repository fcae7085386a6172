-- What lots cost by steps. Assumes nothing.
use Rattle.std.specs.Prelude.{◌≡◌, ℕ, ◌-◌, min, List, [], ◌∷◌, ◌++◌, length, take, replicate, ℤ, pos, ◌+ℤ◌, ◌*ℤ◌}
use Rattle.reader.specs.declared.steps.Step.{Step}
use Rattle.reader.specs.Steps.{lots_in}

-- the first lots at the first price each, and so on
abbrev pub fill : List Step → ℕ → ℤ
fill [] q = pos 0
fill (s ∷ ss) q = (s.price *ℤ pos (min s.lots q)) +ℤ fill ss (q - s.lots)

-- the price of each lot, in order
abbrev pub prices_in_order : List Step → List ℤ
prices_in_order [] = []
prices_in_order (s ∷ ss) = replicate s.lots s.price ++ prices_in_order ss

abbrev pub total : List ℤ → ℤ
total [] = pos 0
total (x ∷ xs) = x +ℤ total xs

-- all lots have a price, and q lots cost the prices of the first q lots
pub record FilledInOrder : Type 0 where
  pub all : (ss : List Step) → length (prices_in_order ss) ≡ lots_in ss
  pub first : (ss : List Step) (q : ℕ) → fill ss q ≡ total (take q (prices_in_order ss))
