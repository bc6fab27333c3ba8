use Rattle.std.proofs.lemmas.Result.{err_from_is_err_and}
use Rattle.mh_text.proofs.ErrorLemmas.{same_error}
use Rattle.mh_history.proofs.LineLemmas.{taken_entry, walked_entry}
use Rattle.mh_window_curve.proofs.TallyLemmas.{tallied_more}
use Rattle.mh_window_curve.proofs.tally.tally_lines.Goals as goal

pub returns-in_err-measured-clause-memory : goal.returns-in_err-measured-clause-memory
returns-in_err-measured-clause-memory c =
    let p = err_from_is_err_and c.from_residual.result c.from_residual.ensures.1 in
    rw (p.1, p.2) (λ is. walked_entry _ _ _ _ c.loop-tally.invariant.walked (c.in_err-measured.ensures.memory (same_error _ _ is)))

pub returns-in_err-add-clause-memory : goal.returns-in_err-add-clause-memory
returns-in_err-add-clause-memory c = λ _. walked_entry _ _ _ _ c.loop-tally.invariant.walked (taken_entry _ _ _ _ (rw c.in-Some.is at c.in_ok-measured.ensures.taken))

pub loop-tally-preserved-in_ok-add : goal.loop-tally-preserved-in_ok-add
loop-tally-preserved-in_ok-add c =
    tallied_more _ _ _ _ _ _ c.loop-tally.invariant (rw c.in-Some.is at c.in_ok-measured.ensures.taken) c.in_ok-add.ensures.tally c.in_ok-add.ensures.bounded

pub loop-tally-preserved : goal.loop-tally-preserved
loop-tally-preserved c = tallied_more _ _ _ _ _ _ c.loop-tally.invariant (rw c.in-Some.is at c.in_ok-measured.ensures.taken) c.in_ok-add.ensures.tally c.in_ok-add.ensures.bounded
