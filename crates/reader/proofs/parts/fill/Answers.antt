use Rattle.std.proofs.Common.{◌≡◌, ◌+◌, ◌-◌, true, false, ◌⊎◌, [], length, take, set, sym, ap, ◌∙◌, inl, inr, arith}
use Rattle.std.specs.Prelude.{nat_lt, ◌&&◌}
use Rattle.std.proofs.lemmas.List.{take_more_set, length-set}
use native.Mathlib.Nat.{sub-zero}
use Rattle.std.proofs.lemmas.Bool.{lt-ltb}
use Rattle.std.proofs.lemmas.Result.{err_from_is_err_and}
use Rattle.words.specs.Grammar.{stands, close_text, up_to}
use Rattle.words.specs.Shapes.{read}
use Rattle.words.specs.Seen.{state_of}
use Rattle.words.proofs.Repeats.{prepend, prepend_none, more_read, more_declined, no_more, closed_read, closed_declined}
use Rattle.reader.proofs.parts.fill.Goals as goal
use Rattle.reader.proofs.parts.fill.Goals.{then-loop-count-test+else-not-has_ended, else-loop-count-test}

pub loop-count-init : goal.loop-count-init
loop-count-init g c =
    let r = read (g.T.Part.shape c.args.range.lo c.args.range.hi) in
    (omega arith, ap (λ n. prepend [] (up_to n false r (state_of c.args.words.now))) (sub-zero (length c.args.places.now)) ∙ prepend_none _)

pub loop-count-preserved : goal.loop-count-preserved
loop-count-preserved g c =
    let r = read (g.T.Part.shape c.args.range.lo c.args.range.hi) in
    let n = c.loop-count.count in
    let x = c.in_ok-places.field-0 in
    let s = state_of c.read.new.words in
    let k = length-set c.loop-count.places n x in
    let e = take_more_set c.loop-count.places n x (omega arith) in
    let m : length (set c.loop-count.places n x) - (n + 1) ≡ length c.loop-count.places - n - 1 = omega (arith, k) in
    let t : nat_lt 0 (n + 1) ≡ true = lt-ltb 0 (n + 1) (omega arith) in (
      omega (arith, k),
      (λ i. prepend (e i) (up_to (m i) (t i) r s))
          ∙ sym (more_read r (take n c.loop-count.places) (state_of c.loop-count.words) (length c.loop-count.places - n) (nat_lt 0 n) x s (omega arith) (sym c.has_ended.ensures ∙ c.if-not-has_ended.true) c.in_ok-places.ensures)
          ∙ c.loop-count.invariant.1,
    )

pub returns-in_err-places-clause-filled : goal.returns-in_err-places-clause-filled
returns-in_err-places-clause-filled g c =
    let p = err_from_is_err_and c.from_residual.result c.from_residual.ensures.1 in
    rw (p.1, p.2)
    (sym (more_declined (read (g.T.Part.shape c.args.range.lo c.args.range.hi)) (take c.loop-count.count c.loop-count.places) (state_of c.loop-count.words) (length c.loop-count.places - c.loop-count.count) (nat_lt 0 c.loop-count.count) _ _ (omega arith) (sym c.has_ended.ensures ∙ c.if-not-has_ended.true) c.in_err-places.ensures)
    ∙ c.loop-count.invariant.1)

pub returns-in_err-expect-clause-filled : goal.returns-in_err-expect-clause-filled
returns-in_err-expect-clause-filled g c =
    let p = err_from_is_err_and c.from_residual-in_err-expect.result c.from_residual-in_err-expect.ensures.1 in
    let r = read (g.T.Part.shape c.args.range.lo c.args.range.hi) in
    let n = c.loop-count.count in
    let s = state_of c.loop-count.words in
    let stops : (length c.loop-count.places - n ≡ 0) ⊎ ((nat_lt 0 n && stands close_text s) ≡ true) =
    elim c.loop-count-test.branch [
      | then-loop-count-test+else-not-has_ended w ↦ inr (sym w.has_ended.ensures ∙ w.if-not-has_ended.false)
      | else-loop-count-test w ↦ inl (omega (arith, w.loop-count-test.false))
    ] in
    rw (p.1, p.2)
    (sym (closed_declined r (take n c.loop-count.places) s _ _ c.in_err-expect.ensures) ∙ sym (no_more r (take n c.loop-count.places) s (length c.loop-count.places - n) (nat_lt 0 n) stops)
    ∙ c.loop-count.invariant.1)

pub returns-clause-filled : goal.returns-clause-filled
returns-clause-filled g c =
    let r = read (g.T.Part.shape c.args.range.lo c.args.range.hi) in
    let n = c.loop-count.count in
    let s = state_of c.loop-count.words in
    let stops : (length c.loop-count.places - n ≡ 0) ⊎ ((nat_lt 0 n && stands close_text s) ≡ true) =
    elim c.loop-count-test.branch [
      | then-loop-count-test+else-not-has_ended w ↦ inr (sym w.has_ended.ensures ∙ w.if-not-has_ended.false)
      | else-loop-count-test w ↦ inl (omega (arith, w.loop-count-test.false))
    ] in
    sym (closed_read r (take n c.loop-count.places) s _ c.in_ok-expect.ensures) ∙ sym (no_more r (take n c.loop-count.places) s (length c.loop-count.places - n) (nat_lt 0 n) stops)
    ∙ c.loop-count.invariant.1
