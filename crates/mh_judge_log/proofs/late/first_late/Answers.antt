use Rattle.mh_judge_log.proofs.LateLemmas.{kept_all, kept_more, kept_none}
use Rattle.mh_judge_log.proofs.late.first_late.Goals as goal

pub loop-place-init : goal.loop-place-init
loop-place-init c = kept_none c.args.order.now

pub loop-place-preserved : goal.loop-place-preserved
loop-place-preserved c =
    kept_more c.args.order.now c.loop-place.place c.loop-place.greatest c.index-order-place.result c.loop-place-test.true c.index-order-place.is c.loop-place.invariant _ c.if-timed-greatest.false c.max-greatest.ensures

pub returns-clause-none : goal.returns-clause-none
returns-clause-none c = kept_all _ _ _ c.loop-place.invariant c.loop-place-test.false
