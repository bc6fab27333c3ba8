use Rattle.std.specs.Prelude.{◌+◌, ◌∷◌, ◌++◌, []}
use Rattle.mh_tell_chrome.specs.{Deeds.{closed, quanta, step_ends}, TraceEvents.End}
use Rattle.mh_tell_chrome.proofs.TextLemmas.{both_written, one_written}
use Rattle.mh_tell_chrome.proofs.quantum.push_quantum_ends.Goals as goal

pub returns : goal.returns
returns c =
    let course = c.args.course.now in
    let end = course.time + course.left in
    both_written _ _ _ (step_ends course) (closed end course.slices.phase ++ End end quanta ∷ []) c.in_ok-push_step_end.ensures
    (both_written _ _ _ (closed end course.slices.phase) (End end quanta ∷ []) c.in_ok-push_closed.ensures (one_written _ _ (End end quanta) c.in_ok-push_end.ensures))
