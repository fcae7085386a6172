-- What an arc table means, and what that says of its number and rows. Assumes nothing.
use Rattle.std.specs.Prelude.{◌≡◌, ℕ, ◌<◌, ◌≤◌, min, Bool, true, false, cond, ◌&&◌, ◌↔◌, List, ◌∷◌, ◌++◌, ℤ, pos, ◌+ℤ◌, ◌*ℤ◌, neg_ℤ, ◌≤ℤ◌, Some, None, Option, IsSome, ◌==◌, int_le, nat_lt}
use Rattle.std.specs.List.{find, Any, All}
use Rattle.terms.specs.Numbers.{Near, near}
use Rattle.fleet.specs.declared.records.Range.{Range}
use Rattle.fleet.specs.Units.{UnitModel, Meaning, among, holds}
use Rattle.fleet_kinds.specs.declared.rows.ArcRow.{ArcRow}

-- the row's unit is one of n, and its period and states exist
abbrev pub existing : ℕ → ArcRow → Bool
existing n r = nat_lt r.unit n && (nat_lt r.period 48 && (nat_lt r.from 80 && nat_lt r.to 80))

-- -500 ≤ lo ≤ hi ≤ 500
abbrev pub ranged : ArcRow → Bool
ranged r = int_le (neg_ℤ (pos 500)) r.lo && (int_le r.lo r.hi && int_le r.hi (pos 500))

abbrev pub bounded : ArcRow → Bool
bounded r = near 250000000 r.base && near 500000 r.rate

abbrev pub heeded : ℕ → ArcRow → Bool
heeded n r = existing n r && (ranged r && bounded r)

-- the row is for this unit, period and these states
abbrev pub about : ℕ → ℕ → ℕ → ℕ → ArcRow → Bool
about u t a b r = r.unit == u && (r.period == t && (r.from == a && r.to == b))

abbrev pub is_for : ℕ → ℕ → ℕ → ℕ → ℕ → ArcRow → Bool
is_for n u t a b r = heeded n r && about u t a b r

-- the row that counts: of the heeded rows for these, the first
abbrev pub row_for : ℕ → List ArcRow → ℕ → ℕ → ℕ → ℕ → Option ArcRow
row_for n rows u t a b = find (is_for n u t a b) rows

abbrev pub row_range : ArcRow → Range
row_range r = record { lo = r.lo; hi = r.hi }

abbrev pub range_of : Option ArcRow → Option Range
range_of None = None
range_of (Some r) = Some (row_range r)

-- base + rate × output, 0 for an output that is not the arc's
abbrev pub cost_on : Option ArcRow → ℤ → ℤ
cost_on None q = pos 0
cost_on (Some r) q = cond (among (row_range r) q) (r.base +ℤ (r.rate *ℤ q)) (pos 0)

abbrev pub table_unit : ℕ → List ArcRow → ℕ → UnitModel
table_unit n rows u = record {
  states = cond (nat_lt u n) 80 1;
  start = 0;
  arc = λ t a b. range_of (row_for n rows u t a b);
  cost = λ t a b q. cost_on (row_for n rows u t a b) q;
  ends = λ a. nat_lt u n && nat_lt a 80;
}

abbrev pub table_meaning : ℕ → List ArcRow → Meaning
table_meaning n rows = record { units = min n 64; model = table_unit (min n 64) rows }

-- what that says --

-- a row that is heeded where there are so many units
pub record Heeded (units : ℕ) (r : ArcRow) : Type 0 where
  pub unit : r.unit < units
  pub period : r.period < 48
  pub from : r.from < 80
  pub to : r.to < 80
  pub low : neg_ℤ (pos 500) ≤ℤ r.lo
  pub order : r.lo ≤ℤ r.hi
  pub high : r.hi ≤ℤ pos 500
  pub base : Near 250000000 r.base
  pub rate : Near 500000 r.rate

-- a row about unit u in period t, from state a to state b
pub record About (u t a b : ℕ) (r : ArcRow) : Type 0 where
  pub unit : r.unit ≡ u
  pub period : r.period ≡ t
  pub from : r.from ≡ a
  pub to : r.to ≡ b

-- the row that counts for these: of the heeded rows about them the first in the list
pub record Counts (units : ℕ) (rows : List ArcRow) (u t a b : ℕ) (r : ArcRow) : Type 0 where
  pub before : List ArcRow
  pub after : List ArcRow
  pub stands : rows ≡ before ++ (r ∷ after)
  pub heeded : Heeded units r
  pub about : About u t a b r
  pub first : All (λ x. Heeded units x → About u t a b x → ⊥) before

-- m is the table of the number n and these rows: n units, or 64 where n is more; each has 80 states, starts in 0 and may
-- end in every one; an arc stands exactly where some heeded row is about it, and has the outputs of the row that counts,
-- each at base + rate × output; any other output costs 0
pub record IsTable (n : ℕ) (rows : List ArcRow) (m : Meaning) : Type 0 where
  pub few : n ≤ 64 → m.units ≡ n
  pub many : 64 < n → m.units ≡ 64
  pub states : (u : ℕ) → u < m.units → (m.model u).states ≡ 80
  pub starts : (u : ℕ) → u < m.units → (m.model u).start ≡ 0
  pub ends : (u a : ℕ) → u < m.units → a < 80 → (m.model u).ends a ≡ true
  pub stands : (u t a b : ℕ) → IsSome ((m.model u).arc t a b) ↔ Any (λ r. Heeded m.units r × About u t a b r) rows
  pub outputs : (u t a b : ℕ) (r : ArcRow) → Counts m.units rows u t a b r → (m.model u).arc t a b ≡ Some (record { lo = r.lo; hi = r.hi })
  pub counts : (u t a b : ℕ) → IsSome ((m.model u).arc t a b) → (r : ArcRow) × Counts m.units rows u t a b r
  pub cost : (u t a b : ℕ) (r : ArcRow) (q : ℤ) → Counts m.units rows u t a b r → r.lo ≤ℤ q → q ≤ℤ r.hi → (m.model u).cost t a b q ≡ r.base +ℤ (r.rate *ℤ q)
  pub other : (u t a b : ℕ) (q : ℤ) → holds ((m.model u).arc t a b) q ≡ false → (m.model u).cost t a b q ≡ pos 0

abbrev pub ArcTableLaw : Type 0
ArcTableLaw = (n : ℕ) (rows : List ArcRow) → IsTable n rows (table_meaning n rows)
