-- Events of which a heap that never collects refuses none.
use Rattle.std.specs.Prelude.{Bool, true, false, not, ◌&&◌, List, [], ◌∷◌}
use Rattle.mh_model.specs.{declared.command.Event.Event, declared.reply.Reply.Reply, Snapshot.world_beside_event}
use Rattle.mh_model.specs.World.{World, world_step}

abbrev pub is_refused : Reply → Bool
is_refused (Reply.Refused refusal) = true
is_refused _ = false

-- the event is no command, or one that the ever-growing world does not refuse
abbrev pub is_taken : World → Event → Bool
is_taken world (Event.Session who command) = not (is_refused (world_step world who command).reply)
is_taken world (Event.Control control) = true

-- the world after an event that there was room for
abbrev pub world_then : World → Event → World
world_then world event = world_beside_event world event Reply.Done

-- each event is so, in the world beside those before it
abbrev pub are_taken : World → List Event → Bool
are_taken world [] = true
are_taken world (event ∷ events) = is_taken world event && are_taken (world_then world event) events
