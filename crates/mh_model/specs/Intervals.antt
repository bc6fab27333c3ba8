-- The intervals and the cycles of a run, and when it is never full.
-- An *interval* is the events between two quanta, with the event that has the second one run.
use Rattle.std.specs.Prelude.{◌≡◌, ℕ, ◌<◌, nat_lt, false, Bool, not, ◌&&◌, ◌||◌, if◌then◌else◌, List, [], ◌∷◌, ◌++◌}
use Rattle.std.specs.List.{AllByRecursion}
use Rattle.mh_model.specs.{declared.command.Event.Event, declared.config.Config.Config, declared.reply.Reply.Reply}
use Rattle.mh_model.specs.{World.{World, world_step}, Collector.{Collector, is_idle}}
use Rattle.mh_model.specs.Machine.{Machine, first_machine, half_step, event_step, machine_replies}
use Rattle.mh_model.specs.{Snapshot.{has_quantum, is_heap_full}, Openings.LeavesFlagged}

-- Runs -------------------------------------------------------------------------------------------

-- the machines of a run: before these events and after each of them
abbrev pub moments : Machine → List Event → List Machine
moments machine [] = machine ∷ []
moments machine (event ∷ events) = machine ∷ moments (event_step machine event).state events

-- events cut after each that has a quantum run: the first interval begins with those that came before, and the last has no quantum
abbrev pub intervals : List Event → Machine → List Event → List (List Event)
intervals before machine [] = before ∷ []
intervals before machine (event ∷ events) =
    if has_quantum machine event
    then (before ++ event ∷ []) ∷ intervals [] (event_step machine event).state events
    else intervals (before ++ event ∷ []) (event_step machine event).state events

-- a cycle has ended between two moments: none runs now, and one ran then or has started since
abbrev pub has_ended : Collector → Collector → Bool
has_ended old new = is_idle new.phase && (not (is_idle old.phase) || nat_lt old.cycle new.cycle)

-- the machines after the events in which a cycle ended
abbrev pub cycle_ends : Machine → List Event → List Machine
cycle_ends machine [] = []
cycle_ends machine (event ∷ events) =
    let next = (event_step machine event).state in
    if has_ended machine.heap.collector next.heap.collector then next ∷ cycle_ends next events else cycle_ends next events

-- Premises ---------------------------------------------------------------------------------------

-- no cycle takes more than so many quanta: one that runs has had fewer
abbrev pub CyclesTakeAtMost : ℕ → Config → List Event → Type 0
CyclesTakeAtMost quanta config events = AllByRecursion (λ machine. is_idle machine.heap.collector.phase ≡ false → machine.heap.collector.quanta < quanta) (moments (first_machine config) events)

-- Runs that are never full ------------------------------------------------------------------------

-- each command leaves flagged pages flagged and without new blocks
abbrev pub LeaveFlagged : Machine → List Event → Type 0
LeaveFlagged machine [] = Unit {0}
LeaveFlagged machine (event ∷ events) = LeavesFlagged machine.heap.collector.table (half_step machine event).heap.collector.table × LeaveFlagged (event_step machine event).state events

-- no reply is a full heap, and no new object goes into a flagged page
pub record IsNeverFull (config : Config) (events : List Event) : Type 0 where
  pub replies : AllByRecursion (λ answer. is_heap_full answer ≡ false) (machine_replies (first_machine config) events)
  pub flagged : LeaveFlagged (first_machine config) events

-- the replies to sessions are those of the ever-growing world, which is given all their commands
abbrev pub AnswerAsTheWorld : World → List Event → List Reply → Type 0
AnswerAsTheWorld world [] answers = Unit {0}
AnswerAsTheWorld world (event ∷ events) [] = ⊥
AnswerAsTheWorld world (Event.Session who command ∷ events) (answer ∷ answers) = (answer ≡ (world_step world who command).reply) × AnswerAsTheWorld (world_step world who command).state events answers
AnswerAsTheWorld world (Event.Control control ∷ events) (answer ∷ answers) = AnswerAsTheWorld world events answers
