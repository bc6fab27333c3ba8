-- Moments of a run: the machine beside the world of the same commands, and the snapshot of its cycle.
use Rattle.std.specs.Prelude.{ℕ, ◌≤◌, ◌<◌, ◌==◌, ◌⊎◌, Bool, true, false, if◌then◌else◌, List, [], ◌∷◌}
use Rattle.mh_model.specs.{declared.command.Event.Event, declared.config.Config.Config, declared.reply.Reply.Reply}
use Rattle.mh_model.specs.{declared.reply.Refusal.TheVariants.HeapFull, World.{World, first_world, births, world_step}}
use Rattle.mh_model.specs.{Paths.Reachable, Collector.is_start_due}
use Rattle.mh_model.specs.Machine.{Machine, first_machine, is_quantum_due, half_step, event_step}
use Rattle.mh_model.specs.declared.command.Control.{Control}

-- The world beside a machine ---------------------------------------------------------------------

-- a reply is the refusal of a full heap
abbrev pub is_heap_full : Reply → Bool
is_heap_full (Reply.Refused HeapFull) = true
is_heap_full _ = false

-- the world beside a machine, after an event with its reply: it takes the step of each command that wasn't answered by a full heap
abbrev pub world_beside_event : World → Event → Reply → World
world_beside_event world (Event.Session who command) answer = if is_heap_full answer then world else (world_step world who command).state
world_beside_event world (Event.Control control) answer = world

-- the world beside a machine, after a list of events that were given these replies. It passes over events without a reply, so a list of replies may
-- be shorter
abbrev pub world_beside : World → List Event → List Reply → World
world_beside world [] answers = world
world_beside world (event ∷ events) [] = world
world_beside world (event ∷ events) (answer ∷ answers) = world_beside (world_beside_event world event answer) events answers

-- Moments ----------------------------------------------------------------------------------------

-- a moment of a run: the machine, the world beside it, and the world as the last cycle started; before any did, that is the first world, so every
-- birth counts as kept
-- from: Yuasa (snapshot)
pub record Moment : Type 0 where
  pub machine : Machine
  pub world : World
  pub snapshot : World

abbrev pub first_moment : Config → Moment
first_moment config = record { machine = first_machine config; world = first_world config; snapshot = first_world config }

-- an event has a quantum run after its half step
abbrev pub has_quantum : Machine → Event → Bool
has_quantum machine (Event.Session who command) = is_quantum_due (half_step machine (Event.Session who command))
has_quantum machine (Event.Control Control.Quantum) = machine.heap.config.every == 0
has_quantum machine (Event.Control _) = false

-- the moment between a command and the quantum that it makes due; of a control the moment before it
unfoldable pub half_moment : Moment → Event → Moment
half_moment moment event = record moment { machine = half_step moment.machine event; world = world_beside_event moment.world event (event_step moment.machine event).reply }

-- the snapshot of a cycle: the world at the moment before the quantum that starts it. A quantum that starts none leaves the snapshot as it is
-- from: Yuasa (snapshot)
abbrev pub snapshot_at : Moment → World
snapshot_at moment = if is_start_due moment.machine.heap.config moment.machine.heap.collector then moment.world else moment.snapshot

-- the moment after an event
-- from: Yuasa (snapshot)
unfoldable pub next_moment : Moment → Event → Moment
next_moment moment event =
    let half = half_moment moment event in
    record half { machine = (event_step moment.machine event).state; snapshot = if has_quantum moment.machine event then snapshot_at half else moment.snapshot }

-- the moment after a list of events
-- from: Yuasa (snapshot)
unfoldable pub moment_after : Moment → List Event → Moment
moment_after moment [] = moment
moment_after moment (event ∷ events) = moment_after (next_moment moment event) events

-- what a cycle keeps: the births that its snapshot reached, and those born since
-- from: Yuasa
abbrev pub IsKept : World → ℕ → ℕ → Type 0
IsKept snapshot next_birth birth = Reachable snapshot birth ⊎ ((births snapshot ≤ birth) × (birth < next_birth))
