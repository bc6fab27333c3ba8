-- A heap that is seen as a world, beside the ever-growing world.
use Rattle.std.specs.Prelude.{◌≡◌, ℕ, false, List}
use Rattle.mh_model.specs.{declared.command.Command.Command, declared.command.Event.Event, World.{World, world_step}}
use Rattle.mh_model.specs.Machine.{machine_after, machine_replies}
use Rattle.mh_model.specs.Snapshot.{Moment, moment_after, is_heap_full, world_beside}

-- The ever-growing world never answers that the heap is full
abbrev pub WorldIsNeverFull : Type 0
WorldIsNeverFull = (world : World) (who : ℕ) (command : Command) → is_heap_full (world_step world who command).reply ≡ false

-- The machine of a moment is the machine after the same events
abbrev pub MomentHasTheMachine : Type 0
MomentHasTheMachine = (events : List Event) (moment : Moment) → (moment_after moment events).machine ≡ machine_after moment.machine events

-- The world of a moment is the one beside that machine: of the same events, with the machine's replies
abbrev pub MomentHasTheWorld : Type 0
MomentHasTheWorld = (events : List Event) (moment : Moment) → (moment_after moment events).world ≡ world_beside moment.world events (machine_replies moment.machine events)
