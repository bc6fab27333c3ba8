use Rattle.std.specs.Prelude.{[]}
use Rattle.mh_model.specs.Replies.{phase_word}
use Rattle.mh_tell_chrome.specs.{Deeds.{cycles, phase_ends, quanta}, TraceEvents.Begin}
use Rattle.mh_tell_chrome.proofs.TextLemmas.{after_written}
use Rattle.mh_tell_chrome.proofs.quantum.push_phase.Goals as goal

pub returns : goal.returns
returns c =
    let course = c.args.course.now in
    after_written _ _ _ _ (phase_ends course.time course.slices.phase) (Begin course.time cycles (phase_word c.args.phase) []) (Begin course.time quanta (phase_word c.args.phase) []) c.in_ok-push_phase_ends.ensures
    (rw c.phase_word.ensures at c.in_ok-push_begin.ensures) (rw c.phase_word-2.ensures at c.in_ok-push_begin-2.ensures)
