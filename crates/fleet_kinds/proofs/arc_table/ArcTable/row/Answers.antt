use Rattle.std.proofs.Common.{◌≡◌, min, rules, tests, vec_items, ◌∙◌}
use Rattle.std.proofs.lemmas.Iterator.{YieldsList-from_slice}
use Rattle.std.proofs.lemmas.Iterator.Search.{find_from_yields_List}
use Rattle.fleet_kinds.specs.ArcTables.{is_for, row_for}
use Rattle.fleet_kinds.specs.Heeded.{row_within}
use Rattle.fleet_kinds.proofs.arc_table.ArcTable.row.Goals as goal

pub returns : goal.returns
returns c =
    let units = min c.args.self.now.count 64 in
    let rows = vec_items c.args.self.now.rows in
    let found : c.copied.result ≡ row_for units rows c.args.unit c.args.period c.args.from c.args.to =
    c.copied.ensures ∙ find_from_yields_List (is_for units c.args.unit c.args.period c.args.from c.args.to) _ _ c.find.result c.find.ensures.ran (YieldsList-from_slice rows (cc)) (λ x b q k. search (rules, tests)) in
    record {
      row = found;
      within = row_within units rows c.args.unit c.args.period c.args.from c.args.to c.copied.result found;
    }
