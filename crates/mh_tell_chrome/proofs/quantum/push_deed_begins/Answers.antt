use Rattle.std.specs.Prelude.{◌++◌, [], codes, decimal}
use Rattle.mh_tell_chrome.specs.{Deeds.{cycle_begins, cycle_ends, cycles}, TraceEvents.Begin}
use Rattle.mh_tell_chrome.proofs.TextLemmas.{both_written, one_written}
use Rattle.mh_tell_chrome.proofs.quantum.push_deed_begins.Goals as goal

pub returns-in_ok-push_begin_numbered-in-Start : goal.returns-in_ok-push_begin_numbered-in-Start
returns-in_ok-push_begin_numbered-in-Start c =
    let course = c.args.course.now in
    rw c.in-Start.is
    (both_written _ _ _ (cycle_ends course.time course.slices) (cycle_begins course.time c.in-Start.cycle) c.in_ok-push_cycle_ends-in-Start.ensures
    (one_written _ _ (Begin course.time cycles (codes "cycle " ++ decimal c.in-Start.cycle) []) (rw c.from.ensures at c.in_ok-push_begin_numbered-in-Start.ensures)))
