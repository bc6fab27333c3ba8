use Rattle.std.proofs.{Common.arith, lemmas.List.take_more}
use Rattle.mh_script.proofs.LineLemmas.{head-fails, told-all, told-fails, told-more, told-on, told-stops, told-unfinished}
use Rattle.mh_script.proofs.TakenLemmas.{takes-none, writing-fails, writing-stops}
use Rattle.mh_script.proofs.lines.write_lines.Goals as goal

pub returns-in_err-head : goal.returns-in_err-head
returns-in_err-head g c = writing-stops _ c.from_residual-in_err-head.ensures.1 (takes-none _ _)

pub returns-in_err-write_head : goal.returns-in_err-write_head
returns-in_err-write_head g c =
    writing-fails _ c.from_residual-in_err-write_head.ensures.1 (head-fails (g.L.Lines.told c.args.form) _ _ _ (c.in_ok-head.ensures.by_lines c.args.events.now) (rw c.in_ok-head.ensures.head at c.in_err-write_head.ensures))

pub returns-in_err-add : goal.returns-in_err-add
returns-in_err-add g c = writing-stops _ c.from_residual-in_err-add.ensures.1 (told-stops c.loop-event.invariant.told (c.in_ok-head.ensures.by_lines c.args.events.now))

pub returns-in_err-flush_full : goal.returns-in_err-flush_full
returns-in_err-flush_full g c =
    let told = told-more c.loop-event.invariant.told _ (take_more _ _ _ c.loop-event-test.true) c.in_ok-add.ensures.state c.in_ok-add.ensures.text in
    writing-fails _ c.from_residual-in_err-flush_full.ensures.1 (told-fails told (c.in_ok-head.ensures.by_lines c.args.events.now) c.in_err-flush_full.ensures.failed)

pub loop-event-preserved : goal.loop-event-preserved
loop-event-preserved g c =
    let told = told-more c.loop-event.invariant.told _ (take_more _ _ _ c.loop-event-test.true) c.in_ok-add.ensures.state c.in_ok-add.ensures.text in
    record { told = told-on told c.in_ok-flush_full.ensures.kept; holds = c.in_ok-add.ensures.holds; count = omega (arith, c.in_ok-add.ensures.count, c.loop-event.invariant.count) }

pub returns-in_err-finish : goal.returns-in_err-finish
returns-in_err-finish g c = writing-stops _ c.from_residual-in_err-finish.ensures.1 (told-stops c.loop-event.invariant.told (c.in_ok-head.ensures.by_lines c.args.events.now))

pub returns-in_err-flush : goal.returns-in_err-flush
returns-in_err-flush g c =
    writing-fails _ c.from_residual-in_err-flush.ensures.1
    (told-unfinished c.loop-event.invariant.told (c.in_ok-head.ensures.by_lines c.args.events.now) c.loop-event-test.false c.in_ok-finish.ensures c.in_err-flush.ensures.written)

pub returns : goal.returns
returns g c = told-all c.loop-event.invariant.told (c.in_ok-head.ensures.by_lines c.args.events.now) c.loop-event-test.false c.in_ok-finish.ensures c.in_ok-flush.ensures.written
