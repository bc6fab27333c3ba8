use Rattle.std.proofs.Common.{sym, ap, ◌∙◌}
use Rattle.mh_model.specs.Pages.{free_pages}
use Rattle.mh_state.specs.Whole.{shown_outcome}
use Rattle.mh_promise.specs.Runs as promised
use Rattle.mh_state.proofs.run.run.Goals as goal

pub returns-clause-promise : goal.returns-clause-promise
returns-clause-promise g c =
    let replay = c.in_ok-machine.ensures.replay in
    let outcome : promised.Outcome = shown_outcome (record { replies = c.in_ok-machine.replies; heap = c.into_parts-heap.result.0; free = c.free_pages-free.result; trace = c.into_parts-heap.result.1 }) in
    c.runs_keep_their_promise.ensures c.args.config c.args.events.now outcome (record {
      replies = replay.replies_are;
      heap = c.into_parts-heap.ensures.heap ∙ ap (λ m. m.heap) replay.machine_is;
      free = c.free_pages-free.ensures ∙ ap (λ h. free_pages h.collector.table) (c.heap.ensures ∙ sym c.into_parts-heap.ensures.heap);
      trace = c.into_parts-heap.ensures.trace ∙ ap (λ m. m.trace) replay.machine_is;
    })
