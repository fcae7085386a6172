-- Steps: their ranges, and what their lots cost. Assumes nothing.
use Rattle.std.specs.Prelude.{ℕ, ◌+◌, Bool, true, cond, ◌&&◌, List, [], ◌∷◌, length, pos, ◌==◌, nat_le}
use Rattle.std.specs.List.{list_all}
use Rattle.terms.specs.Numbers.{near}
use Rattle.reader.specs.declared.steps.Step.{Step}

-- 1 to 500 lots, at a price within ±500,000 cents
abbrev pub fair_step : Step → Bool
fair_step s = (nat_le 1 s.lots && nat_le s.lots 500) && near 500000 s.price

abbrev pub fair_steps : List Step → Bool
fair_steps ss = list_all fair_step ss

-- one to four steps
abbrev pub fair_list : List Step → Bool
fair_list ss = (nat_le 1 (length ss) && nat_le (length ss) 4) && fair_steps ss

-- a place that is not used
abbrev pub no_step : Step
no_step = record { lots = 0; price = pos 0 }

abbrev pub unused : Step → Bool
unused s = s.lots == 0 && near 0 s.price

-- steps, and after the last of them places that are not used
abbrev pub fair_rest : List Step → Bool
fair_rest [] = true
fair_rest (s ∷ ss) = cond (s.lots == 0) (list_all unused (s ∷ ss)) (fair_step s && fair_rest ss)

abbrev pub fair_places : List Step → Bool
fair_places [] = true
fair_places (s ∷ ss) = fair_step s && fair_rest ss

abbrev pub lots_in : List Step → ℕ
lots_in [] = 0
lots_in (s ∷ ss) = s.lots + lots_in ss
