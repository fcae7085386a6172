-- The rule of buyers, on outputs and on the state that these give. Assumes nothing.
use Rattle.std.specs.Prelude.{◌≡◌, ℕ, ◌<◌, List, length, ℤ, pos, neg_ℤ, ◌≤ℤ◌, slice_index_or, unsigned_abs}
use Rattle.terms.specs.Sums.{sum_to}
use Rattle.reader.specs.declared.steps.Step.{Step}
use Rattle.reader.specs.Steps.{lots_in}
use Rattle.units.specs.Fill.{fill}
use Rattle.units.specs.Links.{model_of}
use Rattle.units.specs.BuyerUnits.{buyer_links}
use Rattle.units.specs.Agree.{OfKind}

-- each period it takes from none to all of its lots
abbrev pub BuyerObeys : List Step → List ℤ → Type 0
BuyerObeys ss qs = (t : ℕ) → t < length qs → (neg_ℤ (pos (lots_in ss)) ≤ℤ slice_index_or qs t (pos 0)) × (slice_index_or qs t (pos 0) ≤ℤ pos 0)

-- and each period costs minus their price, filled in order
abbrev pub buyer_cost : List Step → List ℤ → ℤ
buyer_cost ss qs = sum_to (length qs) (λ t. neg_ℤ (fill ss (unsigned_abs (slice_index_or qs t (pos 0)))))

-- it has one state
abbrev pub BuyerIn : List ℤ → ℕ → ℕ → Type 0
BuyerIn qs t a = a ≡ 0

abbrev pub BuyerRule : List Step → Type 0
BuyerRule ss = OfKind (model_of (buyer_links ss)) 1 (BuyerObeys ss) (BuyerObeys ss) BuyerIn (buyer_cost ss)
