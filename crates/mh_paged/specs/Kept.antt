-- What a call that performs a command on the pages answers and leaves, and what holds of a heap at each moment.
use Rattle.std.specs.Prelude.{◌≡◌, ℕ, true}
use Rattle.mh_model.specs.{declared.command.Command.Command, declared.reply.Reply.Reply}
use Rattle.mh_model.specs.{declared.cycle.Phase.TheVariants.Idle, World.{World, says}, Collector.is_start_due}
use Rattle.mh_model.specs.{Mutator.{HeapState, mutator_step}, View.heap_view, Invariant.{Continues, HeapKeeps}}

-- the step of this command on the pages answers this reply and leaves this heap
abbrev pub Steps : HeapState → ℕ → Command → Reply → HeapState → Type 0
Steps old who command reply new = mutator_step old who command ≡ says reply new

-- each world that the heap kept as the snapshot of its cycle is still kept
abbrev pub KeepsEachWorld : HeapState → HeapState → Type 0
KeepsEachWorld old new = (snapshot : World) → HeapKeeps snapshot old → HeapKeeps snapshot new

-- a cycle that started keeps what was reachable in the view of the heap before
abbrev pub StartsFromItsView : HeapState → HeapState → Type 0
StartsFromItsView old new = old.collector.phase ≡ Idle → is_start_due old.config old.collector ≡ true → Continues (heap_view old) old.next_birth new.collector
