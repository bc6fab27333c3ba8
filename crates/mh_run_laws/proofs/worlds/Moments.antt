-- The moments of a run are the machine's run and the world beside it.
use Rattle.std.proofs.Common.{◌≡◌, List, [], ◌∷◌, refl}
use Rattle.mh_model.specs.{declared.command.Event.Event, Machine.{machine_after, machine_replies}}
use Rattle.mh_model.specs.Snapshot.{Moment, world_beside, half_moment, next_moment, moment_after}

-- the machine of a moment is the machine after the same events
pub machine-moment_after : (events : List Event) (moment : Moment) → (moment_after moment events).machine ≡ machine_after moment.machine events
unfolding moment_after next_moment half_moment machine_after
machine-moment_after [] moment = refl
machine-moment_after (event ∷ events) moment = machine-moment_after events (next_moment moment event)

-- and its world is the one beside that machine
pub world-moment_after : (events : List Event) (moment : Moment) → (moment_after moment events).world ≡ world_beside moment.world events (machine_replies moment.machine events)
unfolding moment_after next_moment half_moment machine_replies
world-moment_after [] moment = refl
world-moment_after (event ∷ events) moment = world-moment_after events (next_moment moment event)
