-- A unit by its states: which it may go between, with which outputs and at what cost, the same in every period. Assumes
-- nothing.
use Rattle.std.specs.Prelude.{ℕ, Bool, cond, ◌&&◌, ℤ, pos, Some, None, Option, nat_lt}
use Rattle.fleet.specs.declared.records.Range.{Range}
use Rattle.fleet.specs.Units.{UnitModel, holds}

pub record Links : Type 0 where
  pub states : ℕ
  pub start : ℕ
  -- by the state before and the state after
  pub linked : ℕ → ℕ → Bool
  pub outputs : ℕ → ℕ → Range
  -- the same, and the output
  pub charge : ℕ → ℕ → ℤ → ℤ
  -- whether the day may end in the state
  pub ends : ℕ → Bool

-- there is an arc in every period between two of the states that are linked
abbrev pub joined : Links → ℕ → ℕ → ℕ → Bool
joined l t a b = nat_lt t 48 && (nat_lt a l.states && (nat_lt b l.states && l.linked a b))

abbrev pub link_arc : Links → ℕ → ℕ → ℕ → Option Range
link_arc l t a b = cond (joined l t a b) (Some (l.outputs a b)) None

abbrev pub model_of : Links → UnitModel
model_of l = record {
  states = l.states;
  start = l.start;
  arc = link_arc l;
  cost = λ t a b q. cond (holds (link_arc l t a b) q) (l.charge a b q) (pos 0);
  ends = λ a. nat_lt a l.states && l.ends a;
}
