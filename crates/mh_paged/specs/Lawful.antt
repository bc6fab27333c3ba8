-- What the laws tell of a heap of pages at each moment, in equations and orders alone, and what a quantum does.
use Rattle.std.specs.Prelude.{◌≡◌, ℕ, ◌+◌, ◌≤◌}
use Rattle.mh_model.specs.{declared.command.Command.Command, World.{IsClosed, births}, Paths.Agrees, Collector.quantum}
use Rattle.mh_model.specs.{Mutator.{HeapState, mutator_step}, View.heap_view}
use Rattle.mh_laws.specs.Forwarders.{MakesItsForwarders}
use Rattle.mh_run_laws.specs.Following.{Follows, has_no_place}
use Rattle.mh_cycle.specs.Snapshots.{ContinuesEach}
use Rattle.mh_heap.specs.Shown.{Showing}
use Rattle.mh_paged.specs.Kept.{StartsFromItsView}

-- what a heap of pages shows: its view, if its pages have no place, its cycle's number, and the configured quantum
abbrev pub showing : HeapState → Showing
showing heap = record { view = heap_view heap; is_full = has_no_place heap; number = heap.collector.cycle; limit = heap.config.quantum }

-- the heap after a quantum
abbrev pub after_quantum : HeapState → HeapState
after_quantum heap = record heap { collector = (quantum heap.config heap.collector).collector }

-- the machine's quantum was run, which spent so many units. It kept the snapshot of a running cycle, started one from the view, and left no forwarders but those that it made
pub record IsQuantum (old : HeapState) (spent : ℕ) (new : HeapState) : Type 0 where
  pub units : spent ≡ (quantum old.config old.collector).units
  pub state : new ≡ after_quantum old
  pub keeps : ContinuesEach old.collector new.collector
  pub starts : StartsFromItsView old new
  pub forwarders : MakesItsForwarders old.config old.collector new.collector

-- what the laws say of such a heap, from which it meets the laws of `Heap`.
-- What it shows is closed, commands and a quantum do there what they should, and births are counted
pub record IsLawful (heap : HeapState) : Type 0 where
  pub closed : IsClosed (heap_view heap)
  pub births : births (heap_view heap) ≡ heap.next_birth
  pub follows : (who : ℕ) (command : Command) → Follows heap who command
  pub cycle : (who : ℕ) (command : Command) → (mutator_step heap who command).state.collector.cycle ≡ heap.collector.cycle
  pub config : (who : ℕ) (command : Command) → (mutator_step heap who command).state.config ≡ heap.config
  pub agrees : Agrees (heap_view (after_quantum heap)) (heap_view heap)
  pub limit : (quantum heap.config heap.collector).units ≤ heap.config.quantum
  pub number : heap.collector.cycle ≤ (quantum heap.config heap.collector).collector.cycle
  pub one : (quantum heap.config heap.collector).collector.cycle ≤ heap.collector.cycle + 1
