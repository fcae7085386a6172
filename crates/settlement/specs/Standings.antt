-- What is kept of the units: totals. Assumes nothing.
use Rattle.std.specs.Prelude.{ℕ, List, Some, None, sum_by, Option}
use Rattle.settlement.specs.declared.standing.Standing.{Standing}

abbrev pub counts : Option Standing → ℕ
counts None = 0
counts (Some s) = 1

-- how many units have a run
abbrev pub runs_in : List (Option Standing) → ℕ
runs_in xs = sum_by counts xs

abbrev pub mixed_of : Option Standing → ℕ
mixed_of None = 0
mixed_of (Some s) = s.mixed

-- the weight of all mixes
abbrev pub weight_in : List (Option Standing) → ℕ
weight_in xs = sum_by mixed_of xs
