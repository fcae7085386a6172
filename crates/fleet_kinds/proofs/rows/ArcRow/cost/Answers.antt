use Rattle.std.proofs.Common.{◌+ℤ◌, ◌*ℤ◌, w32, SFits, sym}
use Rattle.std.proofs.lemmas.Bool.{cond-true}
use Rattle.std.proofs.lemmas.Int.{to_z-of_z}
use Rattle.fleet.specs.Units.{among}
use Rattle.fleet_kinds.specs.ArcTables.{row_range}
use Rattle.fleet_kinds.proofs.Costs.{tested, base_fits, rate_fits, product_fits, cost_fits}
use Rattle.fleet_kinds.proofs.rows.ArcRow.cost.Goals as goal

pub overflow_add-result : goal.overflow_add-result
overflow_add-result c =
    let r = c.args.self.now in
    let q = c.args.output in
    let fq : SFits w32 q = c.ranges.output in
    let within = tested (row_range r) c.range.result q fq c.range.ensures c.if-contains.ensures in
    let fb : SFits w32 r.base = base_fits r q c.requires within in
    let fr : SFits w32 r.rate = rate_fits r q c.requires within in
    let fp : SFits w32 (r.rate *ℤ q) = product_fits r q c.requires within in
    simp to_z-of_z (cost_fits r q c.requires within)

pub returns-then-contains : goal.returns-then-contains
returns-then-contains c =
    let r = c.args.self.now in
    let q = c.args.output in
    let fq : SFits w32 q = c.ranges.output in
    let within = tested (row_range r) c.range.result q fq c.range.ensures c.if-contains.ensures in
    let fb : SFits w32 r.base = base_fits r q c.requires within in
    let fr : SFits w32 r.rate = rate_fits r q c.requires within in
    let fp : SFits w32 (r.rate *ℤ q) = product_fits r q c.requires within in
    let fs : SFits w32 (r.base +ℤ r.rate *ℤ q) = cost_fits r q c.requires within in
    simp to_z-of_z (sym (cond-true (among (row_range r) q) _ _ within))
