use Rattle.std.specs.Prelude.{◌++◌}
use Rattle.mh_tell_chrome.specs.Deeds.{course_after_all, deeds_events, quantum_begins, quantum_ends}
use Rattle.mh_tell_chrome.proofs.TextLemmas.{both_written}
use Rattle.mh_tell_chrome.proofs.quantum.push_whole.Goals as goal

pub returns-clause-text : goal.returns-clause-text
returns-clause-text c =
    let begun = c.args.begun in
    let deeds = deeds_events c.args.told begun c.args.deeds.now in
    let ends = quantum_ends (course_after_all c.args.told begun c.args.deeds.now) in
    both_written _ _ _ (quantum_begins c.args.number begun.time c.args.ended begun.slices) (deeds ++ ends) c.in_ok-push_quantum_begins.ensures
    (both_written _ _ _ deeds ends c.in_ok-course.ensures.text (rw c.in_ok-course.ensures.course at c.in_ok-push_quantum_ends.ensures))
