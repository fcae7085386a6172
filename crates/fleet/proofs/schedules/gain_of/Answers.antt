use Rattle.std.proofs.Common.{◌^◌, ◌<◌, pos, ◌-ℤ◌, ◌*ℤ◌, arith, lit<, w32, w64, SFits}
use Rattle.std.proofs.lemmas.Int.{to_z-of_z, to_z_pos}
use Rattle.terms.proofs.Bounds.{fits_64, near_mul, near_pos}
use Rattle.fleet.proofs.RowFacts.{near_gain}
use Rattle.fleet.proofs.schedules.gain_of.Goals as goal

pub overflow_sub-result : goal.overflow_sub-result
overflow_sub-result c =
    let n = c.args.numerator in
    let q = c.args.output in
    let d = c.args.over in
    let k = c.args.cost in
    let n32 : SFits w32 n = c.ranges.numerator in
    let q32 : SFits w32 q = c.ranges.output in
    let k32 : SFits w32 k = c.ranges.cost in
    let n64 : SFits w64 n = fits_64 1000000000 n (lit< tt) c.requires.numerator in
    let q64 : SFits w64 q = fits_64 500 q (lit< tt) c.requires.output in
    let few : d < 2 ^ 63 = omega arith in
    let k64 : SFits w64 k = fits_64 500000000 k (lit< tt) c.requires.cost in
    let nq : SFits w64 (n *ℤ q) = fits_64 500000000000 (n *ℤ q) (lit< tt) (near_mul 1000000000 500 n q c.requires.numerator c.requires.output) in
    let dk : SFits w64 (pos d *ℤ k) = fits_64 500000000000 (pos d *ℤ k) (lit< tt) (near_mul 1000 500000000 (pos d) k (near_pos 1000 d c.requires.over) c.requires.cost) in
    rw (c.from.ensures, c.from-2.ensures, c.from-3.ensures, c.from-4.ensures) (simp (to_z-of_z, to_z_pos) (fits_64 1000000000000 ((n *ℤ q) -ℤ (pos d *ℤ k)) (lit< tt) (near_gain n q d k c.requires.numerator c.requires.output c.requires.over c.requires.cost)))

pub returns : goal.returns
returns c =
    let n = c.args.numerator in
    let q = c.args.output in
    let d = c.args.over in
    let k = c.args.cost in
    let n32 : SFits w32 n = c.ranges.numerator in
    let q32 : SFits w32 q = c.ranges.output in
    let k32 : SFits w32 k = c.ranges.cost in
    let n64 : SFits w64 n = fits_64 1000000000 n (lit< tt) c.requires.numerator in
    let q64 : SFits w64 q = fits_64 500 q (lit< tt) c.requires.output in
    let few : d < 2 ^ 63 = omega arith in
    let k64 : SFits w64 k = fits_64 500000000 k (lit< tt) c.requires.cost in
    let nq : SFits w64 (n *ℤ q) = fits_64 500000000000 (n *ℤ q) (lit< tt) (near_mul 1000000000 500 n q c.requires.numerator c.requires.output) in
    let dk : SFits w64 (pos d *ℤ k) = fits_64 500000000000 (pos d *ℤ k) (lit< tt) (near_mul 1000 500000000 (pos d) k (near_pos 1000 d c.requires.over) c.requires.cost) in
    let near = near_gain n q d k c.requires.numerator c.requires.output c.requires.over c.requires.cost in
    let all : SFits w64 ((n *ℤ q) -ℤ (pos d *ℤ k)) = fits_64 1000000000000 ((n *ℤ q) -ℤ (pos d *ℤ k)) (lit< tt) near in
    record { gain = rw (c.from.ensures, c.from-2.ensures, c.from-3.ensures, c.from-4.ensures) (simp (to_z-of_z, to_z_pos)); bounded = rw (c.from.ensures, c.from-2.ensures, c.from-3.ensures, c.from-4.ensures) (simp (to_z-of_z, to_z_pos) near) }
