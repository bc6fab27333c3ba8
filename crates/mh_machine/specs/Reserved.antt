-- Events for which there is room, and the memory that they don't ask for.
use Rattle.std.specs.Prelude.{◌≡◌, ◌<◌, ℕ, suc, Bool, true, false}
use Rattle.mh_model.specs.declared.{command.Event.Event, reply.Reply.Reply, command.Control.Control}
use Rattle.mh_machine.specs.Running.{Running, Does, Forgets, MayAskForMemory, Reserves}

-- events were done and traces forgotten in turn, and so many events since the first of these moments or the last forgetting
pub data Since (first : Running) : ℕ → Running → Type 0 where
  AtFirst : Since first 0 first
  Done : (count : ℕ) (old new : Running) (event : Event) (reply : Reply) → Since first count old → Does old event reply new → Since first (suc count) new
  Forgotten : (count : ℕ) (old new : Running) → Since first count old → Forgets old new → Since first 0 new

-- the event asks for the table of blocks
abbrev pub is_dump : Event → Bool
is_dump (Event.Control Control.Dump) = true
is_dump _ = false

-- Once there is room for some events, none of the next so many asks for memory, unless it is a dump; and so none of so many after each time that the trace is forgotten
abbrev pub ReservedEventsAskForNoMemory : Type 0
ReservedEventsAskForNoMemory = (room : ℕ) (before first new : Running) (count : ℕ) (event : Event) → Reserves room before first → Since first count new → count < room → is_dump event ≡ false → ¬ MayAskForMemory new.room event
