-- What a service leaves is what its state was.
use Rattle.std.proofs.Common.{◌≡◌, ℕ, List}
use Rattle.mh_model.specs.{History.{events_of, replies_of}, declared.config.Config.Config, declared.history.Entry.Entry}
use Rattle.mh_model.specs.{Pages.free_pages, Mutator.HeapState, Trace.TraceState}
use Rattle.mh_promise.specs.Runs.{IsTheMachines}
use Rattle.mh_state.specs.Storing.{Stored, IsTheReplay}

pub closed-machine : (config : Config) (state : Stored) (history : List Entry) (heap : HeapState) (free : ℕ) (trace : TraceState)
    → state.machine.heap.config ≡ config → history ≡ state.history → heap ≡ state.machine.heap → free ≡ free_pages state.machine.heap.collector.table → trace ≡ state.machine.trace → IsTheReplay state
    → IsTheMachines config (events_of history) (record { replies = replies_of history; heap = heap; free = free; trace = trace })
closed-machine config state history heap free trace same entries kept count letters is = rw (← same, entries, kept, count, letters) is
