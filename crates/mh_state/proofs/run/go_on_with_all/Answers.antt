use Rattle.std.proofs.{Common.{◌≡◌, Err, length, refl, ap, subst, arith}, lemmas.Result.err_from_is_err_and}
use Rattle.mh_state.specs.Auxiliary.{HasDone}
use Rattle.mh_state.proofs.RunLemmas.{one-done, stopped-at}
use Rattle.mh_state.proofs.run.go_on_with_all.Goals as goal

pub loop-event-init : goal.loop-event-init
loop-event-init g c = λ config first. first

pub returns-in_err-go_on-clause-stopped : goal.returns-in_err-go_on-clause-stopped
returns-in_err-go_on-clause-stopped g c =
    let p = err_from_is_err_and c.from_residual.result c.from_residual.ensures.1 in
    rw (p.1, p.2) (λ config first.
    stopped-at config c.args.events.now c.loop-event.event-index c.loop-event.replies.items c.go_on.new.replies.items c.loop-event.machine c.go_on.new.machine c.in_err-go_on.field-0.0 (omega arith)
    c.in_err-go_on.ensures.machine c.in_err-go_on.ensures.replies (λ is. c.in_err-go_on.ensures.full (ap Err is)) (λ done. let refused = c.in_err-go_on.ensures.ends done in cc) (c.loop-event.invariant config first))

pub loop-event-preserved : goal.loop-event-preserved
loop-event-preserved g c = λ config first.
    one-done c.events_keep_the_replay.ensures config c.args.events.now c.loop-event.event-index c.loop-event.replies.items c.go_on.new.replies.items c.loop-event.machine c.go_on.new.machine _ _ (omega arith) refl
    (λ full. let refused = c.in_ok-go_on.ensures.ends full in cc) (c.loop-event.invariant config first) c.in_ok-go_on.ensures.done

pub returns-clause-done : goal.returns-clause-done
returns-clause-done g c = λ config first.
    let all : c.loop-event.event-index ≡ length c.args.events.now = omega arith in
    subst (λ n. HasDone config c.args.events.now n c.loop-event.replies.items c.loop-event.machine) all (c.loop-event.invariant config first)
