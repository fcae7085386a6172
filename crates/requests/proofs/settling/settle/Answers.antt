use Rattle.std.proofs.Common.{[], ◌∷◌, ◌++◌, Err, sym, refl, ◌∙◌, subst}
use Rattle.std.proofs.lemmas.List.{get_or_default}
use Rattle.settlement.specs.Follow.{Follows}
use Rattle.requests.proofs.Goings.{going_start, going_more, going_done, written_set, written_past}
use Rattle.requests.proofs.OneSettlement.{one_settlement}
use Rattle.requests.specs.Requests.{Shared}
use Rattle.requests.specs.Settling.{Written, Settles, SettleAnswer}
use Rattle.requests.proofs.settling.settle.Goals.{then-at-answers, else-at-answers}
use Rattle.requests.proofs.settling.settle.Goals as goal

pub loop-at-init : goal.loop-at-init
loop-at-init g c =
    let opened = c.in-Ok.ensures.opened in
    let d = c.in-Ok.docket in
    going_start g.F.Fleet.meaning d.fleet c.args.periods c.args.weight c.args.requests.now _ c.args.answers.now d refl (subst (λ f. Follows g.F.Fleet.meaning (g.F.Fleet.meaning f) c.args.periods c.args.weight [] d) (sym opened.1) opened.2)

pub loop-at-preserved : goal.loop-at-preserved
loop-at-preserved g c =
    let k = c.loop-at.invariant in
    let made = c.make-answer.ensures in
    let written : Written (k.replies ++ (c.make-answer.result ∷ [])) c.args.answers.now c.if-at-answers.answers =
    elim c.if-at-answers.branch [
      | then-at-answers w ↦ rw w.answers-is (written_set k.replies c.args.answers.now c.loop-at.answers c.loop-at.at c.make-answer.result k.written k.counted w.if-at-answers.true)
      | else-at-answers w ↦ rw w.answers-is (written_past k.replies c.args.answers.now c.loop-at.answers c.loop-at.at c.make-answer.result k.written k.counted w.if-at-answers.false)
    ] in
    going_more g.F.Fleet.meaning c.in-Ok.docket.fleet c.args.periods c.args.weight c.args.requests.now _ c.args.answers.now c.loop-at.at c.loop-at.docket c.make-answer.new.docket _ _ c.loop-at.answers c.if-at-answers.answers _ c.make-answer.result k c.loop-at-test.true (get_or_default c.args.requests.now c.loop-at.at _ _ c.loop-at-test.true) made.goes made.fleet made.long written

pub returns-in-Err : goal.returns-in-Err
returns-in-Err g c =
    let m = g.F.Fleet.meaning c.args.fleet in
    let desk = c.args.desk in
    let lent : Shared = record { gains = desk.gains.now; fewer = desk.fewer.now; more = desk.more.now; schedule = desk.schedule.now; pays = desk.pays.now } in
    let old = c.args.answers.now in
    let why = c.in-Err.ensures.opened in
    record {
      answer = subst (λ o. SettleAnswer o m c.args.periods c.args.weight c.args.requests.now lent lent old old (Err c.in-Err.field-0.decline)) (sym why.0.1) (why.0.2, refl, refl);
      fleet = why.1;
      one = one_settlement;
    }

pub returns : goal.returns
returns g c =
    let m = g.F.Fleet.meaning c.args.fleet in
    let T = c.args.periods in
    let W = c.args.weight in
    let qs = c.args.requests.now in
    let desk = c.args.desk in
    let lent : Shared = record { gains = desk.gains.now; fewer = desk.fewer.now; more = desk.more.now; schedule = desk.schedule.now; pays = desk.pays.now } in
    let old = c.args.answers.now in
    let opened = c.in-Ok.ensures.opened in
    let k = c.loop-at.invariant in
    let new = c.loop-at.answers in
    let left : Shared = record { gains = c.loop-at.gains; fewer = c.loop-at.fewer; more = c.loop-at.more; schedule = c.loop-at.schedule; pays = c.judge-judged.new.pays } in
    let r = c.judge-judged.result in
    let done = going_done g.F.Fleet.meaning c.in-Ok.docket.fleet T W qs lent old c.loop-at.at c.loop-at.docket _ new c.judge-judged.new.pays r k c.loop-at-test.false c.judge-judged.ensures.goes in
    record {
      answer = subst (λ o. SettleAnswer o m T W qs lent left old new r) (sym opened.0) (subst (λ f. Settles (g.F.Fleet.meaning f) T W qs lent left old new r) opened.1 done);
      fleet = c.close.ensures ∙ k.fleet_is ∙ opened.1;
      one = one_settlement;
    }
