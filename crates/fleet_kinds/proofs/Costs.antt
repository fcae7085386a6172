-- What an output of a row within the bounds costs fits a machine number. Assumes nothing.
use Rattle.std.proofs.Common.{◌≡◌, true, ℤ, pos, neg_ℤ, ◌≤ℤ◌, int_le, ◌&&◌, ◌+ℤ◌, ◌*ℤ◌, lit<, w32, SFits, to_z, of_z, sym, subst, ap, ◌∙◌, arith}
use Rattle.std.proofs.lemmas.Int.{ints, to_z-of_z}
use Rattle.std.proofs.lemmas.Bool.{and_parts}
use Rattle.terms.specs.Numbers.{Near, near}
use Rattle.terms.proofs.Ints.{test_le}
use Rattle.terms.proofs.Bounds.{near_test, near_mul, near_add, fits_32}
use Rattle.fleet.specs.declared.records.Range.{Range}
use Rattle.fleet.specs.Units.{among}
use Rattle.fleet.proofs.Arcs.{among_low, among_high}
use Rattle.fleet_kinds.specs.declared.rows.ArcRow.{ArcRow}
use Rattle.fleet_kinds.specs.ArcTables.{ranged, bounded, row_range}

-- what a test of the output passes on
pub tested : (r s : Range) (q : ℤ) → SFits w32 q → s ≡ r → true ≡ among s (to_z w32 (of_z w32 q)) → among r q ≡ true
tested r s q f e h = subst (λ t. among t q ≡ true) e (ap (among s) (sym (to_z-of_z w32 q f)) ∙ sym h)

module _ (r : ArcRow) (q : ℤ) (h : (ranged r && bounded r) ≡ true) (k : among (row_range r) q ≡ true) where
  base_near : Near 250000000 r.base
  base_near = near_test 250000000 r.base (and_parts (near 250000000 r.base) _ (and_parts (ranged r) _ h).1).0

  rate_near : Near 500000 r.rate
  rate_near = near_test 500000 r.rate (and_parts (near 250000000 r.base) _ (and_parts (ranged r) _ h).1).1

  output_near : Near 500 q
  output_near =
      let s = and_parts (int_le (neg_ℤ (pos 500)) r.lo) _ (and_parts (ranged r) _ h).0 in
      let low : neg_ℤ (pos 500) ≤ℤ r.lo = test_le _ r.lo s.0 in
      let high : r.hi ≤ℤ pos 500 = test_le r.hi _ (and_parts (int_le r.lo r.hi) _ s.1).1 in
      let from : r.lo ≤ℤ q = among_low (row_range r) q k in
      let to : q ≤ℤ r.hi = among_high (row_range r) q k in
      record { low = omega (arith, ints); high = omega (arith, ints) }

  product_near : Near 250000000 (r.rate *ℤ q)
  product_near = near_mul 500000 500 r.rate q rate_near output_near

  pub base_fits : SFits w32 r.base
  base_fits = fits_32 250000000 r.base (lit< tt) base_near

  pub rate_fits : SFits w32 r.rate
  rate_fits = fits_32 500000 r.rate (lit< tt) rate_near

  pub product_fits : SFits w32 (r.rate *ℤ q)
  product_fits = fits_32 250000000 (r.rate *ℤ q) (lit< tt) product_near

  pub cost_fits : SFits w32 (r.base +ℤ r.rate *ℤ q)
  cost_fits = fits_32 500000000 (r.base +ℤ r.rate *ℤ q) (lit< tt) (near_add 250000000 250000000 r.base (r.rate *ℤ q) base_near product_near)
