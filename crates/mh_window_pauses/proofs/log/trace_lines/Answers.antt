use Rattle.std.proofs.lemmas.Result.{err_from_is_err_and}
use Rattle.mh_text.proofs.ErrorLemmas.{same_error}
use Rattle.mh_history.proofs.LineLemmas.{taken_entry, walked_entry}
use Rattle.mh_window_pauses.proofs.LogLemmas.{traced_more}
use Rattle.mh_window_pauses.proofs.log.trace_lines.Goals as goal

pub returns-in_err-line-clause-memory : goal.returns-in_err-line-clause-memory
returns-in_err-line-clause-memory c =
    let p = err_from_is_err_and c.from_residual.result c.from_residual.ensures.1 in
    rw (p.1, p.2) (λ is. walked_entry _ _ _ _ c.loop-traced.invariant.walked (c.in_err-line.ensures.memory (same_error _ _ is)))

pub returns-in_err-add-clause-memory : goal.returns-in_err-add-clause-memory
returns-in_err-add-clause-memory c = λ _. walked_entry _ _ _ _ c.loop-traced.invariant.walked (taken_entry _ _ _ _ (rw c.in-Some.is at c.in_ok-line.ensures.taken))

pub loop-traced-preserved : goal.loop-traced-preserved
loop-traced-preserved c = traced_more _ _ _ _ _ _ c.loop-traced.invariant (rw c.in-Some.is at c.in_ok-line.ensures.taken) c.in_ok-add.ensures.trace c.in_ok-add.ensures.bounded
