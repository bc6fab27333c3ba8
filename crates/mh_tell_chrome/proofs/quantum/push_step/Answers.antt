use Rattle.std.specs.Prelude.{◌++◌, [], codes, decimal}
use Rattle.mh_tell_chrome.specs.{Deeds.quanta, TraceEvents.Begin}
use Rattle.mh_tell_chrome.proofs.TextLemmas.{ok_then, one_written}
use Rattle.mh_tell_chrome.proofs.quantum.push_step.Goals as goal

pub returns-in-Root : goal.returns-in-Root
returns-in-Root c = rw c.in-Root.is (ok_then _ (one_written _ _ (Begin c.args.now quanta (codes "root " ++ decimal c.in-Root.slot) [])) c.push_begin_numbered.ensures)
