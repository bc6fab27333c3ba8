use Rattle.std.proofs.{Common.take, lemmas.Result.err_from_is_err_and}
use Rattle.mh_judge_log.specs.Orders.{entries_of}
use Rattle.mh_judge_log.proofs.JudgedLemmas.{order_all, order_bad_at, order_more, some_timed}
use Rattle.mh_judge_log.proofs.judge.follow_order.Goals as goal

pub loop-timed-init : goal.loop-timed-init
loop-timed-init c = c.open-watch.ensures.none

pub follow-requires : goal.follow-requires
follow-requires c = (c.open-watch.result, entries_of (take c.loop-timed.timed-index c.args.order.now), c.loop-timed.invariant)

pub returns-in_err-reply-clause-memory : goal.returns-in_err-reply-clause-memory
returns-in_err-reply-clause-memory c =
    let p = err_from_is_err_and c.from_residual.result c.from_residual.ensures.1 in
    rw p.1 (some_timed c.args.order.now c.loop-timed.timed-index c.loop-timed-test.true)

pub returns-in_err-bad-clause-memory : goal.returns-in_err-bad-clause-memory
returns-in_err-bad-clause-memory c =
    let p = err_from_is_err_and c.from_residual-in_err-bad.result c.from_residual-in_err-bad.ensures.1 in
    rw p.1 (some_timed c.args.order.now c.loop-timed.timed-index c.loop-timed-test.true)

pub loop-timed-preserved : goal.loop-timed-preserved
loop-timed-preserved c =
    order_more c.args.may_be_full c.args.rules c.open-watch.result c.open-watch.ensures.rules c.open-watch.ensures.may_be_full c.args.order.now c.loop-timed.timed-index c.timed-item.result c.loop-timed-test.true c.timed-item.is
    c.in_ok-reply.reply c.in_ok-reply.ensures _ ((rw c.in_default.is at c.in_ok-bad.ensures.right) c.open-watch.result _ c.loop-timed.invariant)

pub returns-in-Some-clause-wrong : goal.returns-in-Some-clause-wrong
returns-in-Some-clause-wrong c =
    order_bad_at c.args.may_be_full c.args.rules c.open-watch.result c.open-watch.ensures.rules c.open-watch.ensures.may_be_full c.args.order.now c.loop-timed.timed-index c.timed-item.result c.loop-timed-test.true c.timed-item.is
    c.in_ok-reply.reply c.in_ok-reply.ensures c.in-Some.bad ((rw c.in-Some.is at c.in_ok-bad.ensures.wrong) c.open-watch.result _ c.loop-timed.invariant).0

pub returns-clause-right : goal.returns-clause-right
returns-clause-right c = order_all c.args.may_be_full c.args.rules c.open-watch.result c.open-watch.ensures.rules c.open-watch.ensures.may_be_full c.args.order.now c.loop-timed.timed-index _ c.loop-timed-test.false c.loop-timed.invariant
