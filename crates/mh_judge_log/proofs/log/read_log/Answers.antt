use Rattle.std.proofs.lemmas.Result.{err_from_is_err_and}
use Rattle.mh_text.proofs.ErrorLemmas.{same_error}
use Rattle.mh_judge_log.proofs.LogLemmas.{logged_begins, logged_command, logged_more, logged_refused}
use Rattle.mh_judge_log.proofs.log.read_log.Goals as goal

pub returns-in_err-timed-clause-line : goal.returns-in_err-timed-clause-line
returns-in_err-timed-clause-line c =
    let p = err_from_is_err_and c.from_residual.result c.from_residual.ensures.1 in
    rw (p.1, p.2) (logged_refused _ _ _ _ c.loop-slots.invariant c.in_err-timed.ensures.line)

pub returns-in_err-timed-clause-memory : goal.returns-in_err-timed-clause-memory
returns-in_err-timed-clause-memory c =
    let p = err_from_is_err_and c.from_residual.result c.from_residual.ensures.1 in
    rw (p.1, p.2) (λ is. logged_begins _ _ _ c.loop-slots.invariant (c.in_err-timed.ensures.memory (same_error _ _ is)))

pub loop-slots-preserved : goal.loop-slots-preserved
loop-slots-preserved c =
    rw c.in_ok-push.ensures.items (logged_more _ _ _ _ c.in-Some.timed c.loop-slots.invariant (rw c.in-Some.is at c.in_ok-timed.ensures.command) (rw c.in-Some.is at c.in_ok-timed.ensures.taken))

pub returns-in_err-push-clause-memory : goal.returns-in_err-push-clause-memory
returns-in_err-push-clause-memory c = λ _. logged_begins _ _ _ c.loop-slots.invariant (rw c.in-Some.is at c.in_ok-timed.ensures.command)

pub returns-clause-command : goal.returns-clause-command
returns-clause-command c = logged_command _ _ _ c.loop-slots.invariant
