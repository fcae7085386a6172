-- An arc's outputs, as bounds. Assumes nothing.
use Rattle.std.proofs.Common.{◌≡◌, ℕ, ◌<◌, true, ℤ, ◌≤ℤ◌, Some, None, Option, refl, subst, ⊎_elim}
use lib.Signed.{le_z}
use Rattle.std.proofs.lemmas.Bool.{and_parts, and_from, both_ways, cases_lt}
use Rattle.terms.specs.Numbers.{Near}
use Rattle.terms.proofs.Ints.{le_test, test_le}
use Rattle.terms.proofs.Bounds.{near_between}
use Rattle.fleet.specs.declared.records.Range.{Range}
use Rattle.fleet.specs.Units.{UnitModel, SoundUnit, SoundArc, among, holds}

pub among_low : (r : Range) (q : ℤ) → among r q ≡ true → r.lo ≤ℤ q
among_low r q h = test_le r.lo q (and_parts (le_z r.lo q) _ h).0

pub among_high : (r : Range) (q : ℤ) → among r q ≡ true → q ≤ℤ r.hi
among_high r q h = test_le q r.hi (and_parts (le_z r.lo q) _ h).1

pub among_from : (r : Range) (q : ℤ) → r.lo ≤ℤ q → q ≤ℤ r.hi → among r q ≡ true
among_from r q l h = and_from (le_z r.lo q) (le_z q r.hi) (le_test r.lo q l) (le_test q r.hi h)

pub holds_none : (q : ℤ) → holds None q ≡ true → ⊥
holds_none q h = both_ways (holds None q) refl h

-- an output of a sound arc
pub holds_near : (o : Option Range) (q : ℤ) → SoundArc o → holds o q ≡ true → Near 500 q
holds_near None q b h = absurd (holds_none q h)
holds_near (Some r) q b h = near_between 500 r.lo r.hi q b.0 b.1 (among_low r q h) (among_high r q h)

module _ (p : UnitModel) (sp : SoundUnit p) where
  -- an arc is within the day, and leads to a state that there is
  pub arc_within : (t a b : ℕ) (q : ℤ) → holds (p.arc t a b) q ≡ true → t < 48
  arc_within t a b q h = ⊎_elim (λ lt. lt) (λ le. absurd (holds_none q (subst (λ o. holds o q ≡ true) (sp.no_period t a b le) h))) (cases_lt t 48)

  pub arc_to : (t a b : ℕ) (q : ℤ) → holds (p.arc t a b) q ≡ true → b < p.states
  arc_to t a b q h = ⊎_elim (λ lt. lt) (λ le. absurd (holds_none q (subst (λ o. holds o q ≡ true) (sp.no_to t a b le) h))) (cases_lt b p.states)
