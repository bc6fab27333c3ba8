use Rattle.std.proofs.{Common.arith, lemmas.Result.err_from_is_err_and}
use Rattle.mh_text.proofs.ErrorLemmas.{same_error}
use Rattle.mh_history.proofs.LineLemmas.{taken_entry, walked_entry, walked_more}
use Rattle.mh_history.proofs.lines.entries_from.Goals as goal

pub returns-in_err-entry-clause-memory : goal.returns-in_err-entry-clause-memory
returns-in_err-entry-clause-memory g c =
    let p = err_from_is_err_and c.from_residual.result c.from_residual.ensures.1 in
    rw (p.1, p.2) (λ is. walked_entry _ _ _ _ c.loop-entries.invariant (c.in_err-entry.ensures.memory (same_error _ _ is)))

pub loop-entries-preserved : goal.loop-entries-preserved
loop-entries-preserved g c = grind (arith, walked_more)

pub returns-in_err-push-clause-memory : goal.returns-in_err-push-clause-memory
returns-in_err-push-clause-memory g c =
    λ _. walked_entry _ _ _ _ c.loop-entries.invariant (taken_entry _ _ _ _ (rw c.in-Some.is at c.in_ok-entry.ensures.taken))
