use Rattle.std.proofs.Common.{◌≡◌, ◌<◌, ◌≤◌, length, get_or, set, pos, None, ap, ◌∙◌, arith, length-set, w64, SFits, to_z, of_z, rules, below_more}
use Rattle.std.proofs.lemmas.Int.{to_z-of_z}
use Rattle.std.proofs.lemmas.List.{get_or-set_same, get_or-set_other, drop-set-lt}
use Rattle.std.proofs.lemmas.Option.{same_Some}
use Rattle.settlement.specs.Weighing.{pay_at}
use Rattle.settlement.proofs.Finding.{item_in_front}
use Rattle.settlement.proofs.sheet.Sheet.write_pays.Goals.{in-Some, in_default}
use Rattle.settlement.proofs.sheet.Sheet.write_pays.Goals as goal

pub loop-unit-preserved : goal.loop-unit-preserved
loop-unit-preserved c =
    let n = c.loop-unit.unit in
    let i = c.loop-unit.invariant in
    let xs = c.loop-unit.pays in
    let units = c.args.self.now.units in
    let within : c.args.units ≤ length units = let long = c.args.self.now.long in let few = c.requires.units in omega arith in
    let item = item_in_front c.args.units units n c.standing-item.result None within c.loop-unit-test.true c.standing-item.is in
    elim c.match-pay_of.branch [
      | in-Some w ↦
          let pay = w.in-Some.pay in
          let x = to_z w64 (of_z w64 pay) in
          let fit : SFits w64 pay = search rules in
          let paid : x ≡ pay_at (get_or units n None) = to_z-of_z w64 pay fit ∙ same_Some pay (pay_at c.standing-item.result) w.in-Some.ensures ∙ ap pay_at item.1 in
          let lt : n < length xs = omega (arith, i.1, c.requires.room, item.0) in
          rw w.pays-is (
            below_more (λ u. get_or (set xs n x) u (pos 0) ≡ pay_at (get_or units u None)) n
                (λ u h. get_or-set_other xs n u x (pos 0) (λ e. omega arith) ∙ i.0 u h)
                (get_or-set_same xs n x (pos 0) lt ∙ paid),
            length-set xs n x ∙ i.1,
            drop-set-lt c.args.units xs n x item.0 ∙ i.2,
          )
      | in_default w ↦ absurd (w.in_default.not-Some (pay_at c.standing-item.result) c.pay_of.ensures)
    ]
