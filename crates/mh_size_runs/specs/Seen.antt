-- What is seen of a run: facts of these events in this heap.
use Rattle.std.specs.Prelude.{ℕ, ◌+◌, ◌-◌, ◌==◌, ◌≤◌, max, nat_le, Bool, true, ◌&&◌, if◌then◌else◌, Option, Some, None, length, map, List, [], ◌∷◌}
use Rattle.mh_model.specs.{declared.command.Event.Event, declared.config.Config.Config, Collector.{Collector, is_idle}}
use Rattle.mh_model.specs.Intervals.{has_ended, cycle_ends, CyclesTakeAtMost}
use Rattle.mh_model.specs.{Machine.{Machine, first_machine, event_step, machine_after, report_on}, Openings.free_of}
use Rattle.mh_model.specs.Trace.{least_of}
use Rattle.mh_size_laws.specs.Room.{HasRoomInARow, first_start, opened_in_a_row}
use Rattle.mh_size_runs.specs.declared.seen.{HasRoom.HasRoom, HasRoom.TheVariants.{Yes, No, NoCycle}, Seen.Seen}

-- the greatest of some numbers, and 0 if there are none
abbrev pub greatest : List ℕ → ℕ
greatest [] = 0
greatest (number ∷ numbers) = max number (greatest numbers)

-- How many quanta a cycle takes at least: one that an event ended those that it has had, with the one that ended it. One that runs on those that it has
-- had, and one more. None, if none runs
abbrev pub quanta_taken : Collector → Collector → ℕ
quanta_taken old new = if has_ended old new then old.quanta + 1 else (if is_idle new.phase then 0 else new.quanta + 1)

-- how many quanta cycles take at least, after each event of a run
abbrev pub counts_of_quanta : Machine → List Event → List ℕ
counts_of_quanta machine [] = []
counts_of_quanta machine (event ∷ events) =
    let next = (event_step machine event).state in
    quanta_taken machine.heap.collector next.heap.collector ∷ counts_of_quanta next events

-- the most quanta of a cycle, and 0 if none has run
abbrev pub most_quanta_of : Config → List Event → ℕ
most_quanta_of config events = greatest (counts_of_quanta (first_machine config) events)

-- the fewest pages that are free as a cycle ended
abbrev pub fewest_left : Config → List Event → Option ℕ
fewest_left config events = least_of (map free_of (cycle_ends (first_machine config) events))

-- the pages that are free after the quantum that starts the first cycle
abbrev pub free_at_start : Config → List Event → Option ℕ
free_at_start config events = least_of (map free_of (first_start (first_machine config) events))

-- a number is no more than another, if there is another
abbrev pub is_within : ℕ → Option ℕ → Bool
is_within number None = true
is_within number (Some other) = nat_le number other

-- there is room for what so many intervals in a row open: in the trigger and one more, and in what cycles leave; and for what one interval fewer opens in
-- what is free after the first start
abbrev pub is_roomy : ℕ → ℕ → ℕ → Option ℕ → Option ℕ → Bool
is_roomy trigger opens fewer left start = nat_le opens (trigger + 1) && (is_within opens left && is_within fewer start)

abbrev pub room_by : ℕ → Bool → HasRoom
room_by quanta roomy = if quanta == 0 then NoCycle else (if roomy then Yes else No)

-- whether a run has room for as many intervals in a row as its cycles take quanta
abbrev pub room_of : Config → List Event → ℕ → HasRoom
room_of config events quanta =
    room_by quanta (is_roomy config.trigger (opened_in_a_row quanta config events) (opened_in_a_row (quanta - 1) config events) (fewest_left config events) (free_at_start config events))

-- What is seen of a run: how many cycles ended, the most quanta of one, the most pages that so many intervals in a row open, the fewest pages that are free
-- as a cycle ended, whether that is room, and its report for windows of this length
abbrev pub seen_in : Config → List Event → ℕ → Seen
seen_in config events window =
    let quanta = most_quanta_of config events in
    record {
      cycles = length (cycle_ends (first_machine config) events);
      quanta = quanta;
      opens = opened_in_a_row quanta config events;
      left = fewest_left config events;
      room = room_of config events quanta;
      report = report_on config (machine_after (first_machine config) events).trace window;
    }

-- The premises of the law of room, by which no program is full while they are so: cycles take at most so many quanta, and there is room for as many intervals
-- in a row
pub record MeetsTheLaw (config : Config) (events : List Event) (quanta : ℕ) : Type 0 where
  pub some : 1 ≤ quanta
  pub cycles : CyclesTakeAtMost quanta config events
  pub room : HasRoomInARow config events quanta
