use Rattle.std.specs.Prelude.{◌∷◌, [], codes}
use Rattle.mh_tell_steps.specs.Figures.{counts_of}
use Rattle.mh_tell_chrome.specs.Deeds.{blocks_counter, controls, cycles, grey_counter, pages_counter, quanta}
use Rattle.mh_tell_chrome.specs.{Runs.thread_events, TraceEvents.{Process, event_text}}
use Rattle.mh_tell_chrome.proofs.SceneLemmas.{head_written}
use Rattle.mh_tell_chrome.proofs.run.head_text.Goals as goal

pub returns : goal.returns
returns c =
    let counts = counts_of c.args.machine.now.machine.heap.collector in
    rw c.into_bytes.ensures.value
    (head_written _ _ _ _ _ _ _ (codes "{\"displayTimeUnit\":\"ns\",\"traceEvents\":[\n") (event_text (Process (codes "metroheap"))) (thread_events cycles (codes "cycles")) (thread_events quanta (codes "quanta")) (thread_events controls (codes "controls"))
    (pages_counter 0 counts ∷ blocks_counter 0 counts ∷ grey_counter 0 counts ∷ []) c.new-text.ensures.bytes c.in_ok-push_str.ensures.bytes c.in_ok-push_str-2.ensures.bytes c.in_ok-push_thread.ensures c.in_ok-push_thread-2.ensures
    c.in_ok-push_thread-3.ensures (rw c.heap_counts.ensures.counts at c.in_ok-push_all_counters.ensures))
