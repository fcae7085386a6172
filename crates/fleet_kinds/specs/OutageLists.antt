-- What a fleet under outages means, what that does to its schedules, and what adding one does. Assumes nothing.
use Rattle.std.specs.Prelude.{◌≡◌, ℕ, ◌<◌, ◌≤◌, Bool, cond, ◌&&◌, ◌⊎◌, ◌↔◌, List, ℤ, pos, Some, None, Ok, Err, Option, Result, ◌==◌, nat_le, nat_lt, slice_index_or}
use Rattle.std.specs.List.{list_any, Any}
use Rattle.terms.specs.Declines.{Says}
use Rattle.terms.specs.declared.decline.Decline.{Decline}
use Rattle.terms.specs.declared.decline.Layer.TheVariants.{Fleet}
use Rattle.terms.specs.declared.entry.Entry.{Entry}
use Rattle.fleet.specs.declared.records.Range.{Range}
use Rattle.fleet.specs.Units.{UnitModel, Meaning, holds}
use Rattle.fleet.specs.Schedules.{Goes, Allowed, cost_of}
use Rattle.fleet_kinds.specs.declared.outages.Outage.{Outage}

abbrev pub covers : ℕ → ℕ → Outage → Bool
covers u t o = o.unit == u && (nat_le o.first t && nat_le t o.last)

-- one of the outages has the unit out in the period
abbrev pub out : List Outage → ℕ → ℕ → Bool
out os u t = list_any (covers u t) os

-- 0 to 0, where the arc contains 0
abbrev pub only_zero : Option Range → Option Range
only_zero o = cond (holds o (pos 0)) (Some (record { lo = pos 0; hi = pos 0 })) None

abbrev pub out_unit : (ℕ → Bool) → UnitModel → UnitModel
out_unit down p = record {
  states = p.states;
  start = p.start;
  arc = λ t a b. cond (down t) (only_zero (p.arc t a b)) (p.arc t a b);
  cost = λ t a b q. cond (down t) (cond (holds (only_zero (p.arc t a b)) q) (p.cost t a b q) (pos 0)) (p.cost t a b q);
  ends = p.ends;
}

abbrev pub out_meaning : List Outage → Meaning → Meaning
out_meaning os m = record { units = m.units; model = λ u. out_unit (out os u) (m.model u) }

-- what outages do --

-- the outage has unit u out in period t
pub record Covers (u t : ℕ) (o : Outage) : Type 0 where
  pub unit : o.unit ≡ u
  pub first : o.first ≤ t
  pub last : t ≤ o.last

-- a schedule's output in period t, 0 past its end
abbrev pub output_in : List Entry → ℕ → ℤ
output_in es t = (slice_index_or es t (record { state = 0; output = pos 0 })).output

-- the output is 0 in every period that an outage of unit u covers
abbrev pub ZeroWhenOut : List Outage → ℕ → List Entry → Type 0
ZeroWhenOut os u es = (t : ℕ) → Any (Covers u t) os → output_in es t ≡ pos 0

-- under outages the units, their states, where they start and may end are those of the fleet below; a unit goes on by an
-- entry where it does below and the output is 0 if the unit is out, and the entry costs the same; so its schedules are
-- those below whose output is 0 whenever it is out, at the same cost
pub record WhenOutLaw : Type 0 where
  pub units : (os : List Outage) (m : Meaning) → (out_meaning os m).units ≡ m.units
  pub states : (os : List Outage) (m : Meaning) (u : ℕ) → ((out_meaning os m).model u).states ≡ (m.model u).states
  pub start : (os : List Outage) (m : Meaning) (u : ℕ) → ((out_meaning os m).model u).start ≡ (m.model u).start
  pub ends : (os : List Outage) (m : Meaning) (u a : ℕ) → ((out_meaning os m).model u).ends a ≡ (m.model u).ends a
  pub goes : (os : List Outage) (m : Meaning) (u t a : ℕ) (e : Entry) → Goes ((out_meaning os m).model u) t a e ↔ (Goes (m.model u) t a e × (Any (Covers u t) os → e.output ≡ pos 0))
  pub entry : (os : List Outage) (m : Meaning) (u t a : ℕ) (e : Entry) → Goes ((out_meaning os m).model u) t a e → ((out_meaning os m).model u).cost t a e.state e.output ≡ (m.model u).cost t a e.state e.output
  pub allowed : (os : List Outage) (m : Meaning) (u : ℕ) (es : List Entry) → Allowed ((out_meaning os m).model u) es ↔ (Allowed (m.model u) es × ZeroWhenOut os u es)
  pub cost : (os : List Outage) (m : Meaning) (u : ℕ) (es : List Entry) → Allowed ((out_meaning os m).model u) es → cost_of ((out_meaning os m).model u) es ≡ cost_of (m.model u) es

-- adding one --

-- what is wrong with one more outage, where so many are listed over so many units
abbrev pub outage_fault : ℕ → ℕ → Outage → Option ℕ
outage_fault units count o =
    cond (nat_lt count 16)
    (cond (nat_lt o.unit units && (nat_le o.first o.last && nat_le o.last 47)) None (Some 14))
    (Some 13)

-- the unit is not one of so many, or the first period comes after the last, or the last after period 47
abbrev pub IsBad : ℕ → Outage → Type 0
IsBad units o = (units ≤ o.unit) ⊎ ((o.last < o.first) ⊎ (47 < o.last))

-- 13 exactly where 16 are listed already, 14 exactly where there is room and the outage is bad, nothing exactly where
-- neither
pub record OutageLaw : Type 0 where
  pub full : (units count : ℕ) (o : Outage) → (outage_fault units count o ≡ Some 13) ↔ (16 ≤ count)
  pub bad : (units count : ℕ) (o : Outage) → (outage_fault units count o ≡ Some 14) ↔ ((count < 16) × IsBad units o)
  pub none : (units count : ℕ) (o : Outage) → (outage_fault units count o ≡ None) ↔ ((count < 16) × (o.unit < units) × (o.first ≤ o.last) × (o.last ≤ 47))

-- taken where nothing is wrong, else declined with that number
abbrev pub AddAnswer : {X : Type 0} → Option ℕ → Result X Decline → Type 0
AddAnswer None (Ok x) = Unit {0}
AddAnswer None (Err d) = ⊥
AddAnswer (Some n) (Ok x) = ⊥
AddAnswer (Some n) (Err d) = Says Fleet n 0 d
