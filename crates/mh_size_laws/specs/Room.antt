-- The room that keeps a run from being full, by numbers that a runtime can count: how many quanta a cycle takes, how many pages so many intervals in a row
-- open, and how many pages are free as cycles start and end.
use Rattle.std.specs.Prelude.{◌≡◌, ℕ, ◌+◌, ◌-◌, ◌<◌, ◌≤◌, max, nat_lt, Bool, false, if◌then◌else◌, List, [], ◌∷◌, map, take}
use Rattle.std.specs.List.{AllByRecursion, sum}
use Rattle.mh_model.specs.{declared.command.Event.Event, declared.config.Config.Config, Bound.most_quanta}
use Rattle.mh_model.specs.Collector.{is_idle}
use Rattle.mh_model.specs.Machine.{Machine, first_machine, event_step, machine_after, machine_replies}
use Rattle.mh_model.specs.{Snapshot.is_heap_full, Openings.{opens_at_most, free_of}}
use Rattle.mh_model.specs.Intervals.{moments, intervals, cycle_ends, CyclesTakeAtMost, LeaveFlagged, IsNeverFull}

-- In a row ---------------------------------------------------------------------------------------

-- the most that so many of these numbers in a row come to, or fewer at the end
abbrev pub most_in_a_row : ℕ → List ℕ → ℕ
most_in_a_row count [] = 0
most_in_a_row count (number ∷ numbers) = max (sum (take count (number ∷ numbers))) (most_in_a_row count numbers)

-- the most pages that so many of these intervals in a row open: a sum over the intervals, each rounded up by itself
abbrev pub opened_by : ℕ → Config → List (List Event) → ℕ
opened_by count config cut = most_in_a_row count (map (opens_at_most config) cut)

-- The first cycle --------------------------------------------------------------------------------

-- a cycle has started
abbrev pub has_cycle : Machine → Bool
has_cycle machine = nat_lt 0 machine.heap.collector.cycle

-- the events up to the one that has the first cycle started, and with it; all, if none starts
abbrev pub until_cycle : Machine → List Event → List Event
until_cycle machine [] = []
until_cycle machine (event ∷ events) =
    let next = (event_step machine event).state in
    if has_cycle next then event ∷ [] else event ∷ until_cycle next events

-- the machine after the quantum that starts the first cycle; none, if none starts
abbrev pub first_start : Machine → List Event → List Machine
first_start machine [] = []
first_start machine (event ∷ events) =
    let next = (event_step machine event).state in
    if has_cycle next then next ∷ [] else first_start next events

-- the intervals since the first cycle started: the first one begins after the quantum that starts it
abbrev pub later_intervals : Machine → List Event → List (List Event)
later_intervals machine [] = []
later_intervals machine (event ∷ events) =
    let next = (event_step machine event).state in
    if has_cycle next then intervals [] next events else later_intervals next events

-- the most pages that so many intervals in a row open since the first cycle started
abbrev pub opened_in_a_row : ℕ → Config → List Event → ℕ
opened_in_a_row count config events = opened_by count config (later_intervals (first_machine config) events)

-- Room -------------------------------------------------------------------------------------------

-- a run has room for so many intervals in a row: in its trigger and one more, and in the free pages that each cycle leaves. After the quantum that starts the
-- first cycle, room for one interval less is enough. Nothing was a full heap before
pub record HasRoomInARow (config : Config) (events : List Event) (quanta : ℕ) : Type 0 where
  pub before : AllByRecursion (λ answer. is_heap_full answer ≡ false) (machine_replies (first_machine config) (until_cycle (first_machine config) events))
  pub trigger : opened_in_a_row quanta config events ≤ config.trigger + 1
  pub start : AllByRecursion (λ machine. opened_in_a_row (quanta - 1) config events ≤ free_of machine) (first_start (first_machine config) events)
  pub left : AllByRecursion (λ machine. opened_in_a_row quanta config events ≤ free_of machine) (cycle_ends (first_machine config) events)

-- Let cycles take at most N quanta. Let a run have room for any N intervals in a row since its first cycle started. If no reply was `heap full` until then,
-- none is, and no object goes into a flagged page. What was made before counts nothing
abbrev pub RoomInARowSuffices : Type 0
RoomInARowSuffices = (config : Config) (events : List Event) (quanta : ℕ) → 1 ≤ quanta → CyclesTakeAtMost quanta config events → HasRoomInARow config events quanta → IsNeverFull config events

-- From any moment --------------------------------------------------------------------------------

-- a machine has room for so many intervals in a row of the events from now on, of which the first begins now. If a cycle runs that has had q quanta, as many
-- pages are free as any N - q intervals in a row open, and else as any N
pub record HasRoomFrom (config : Config) (machine : Machine) (events : List Event) (quanta : ℕ) : Type 0 where
  pub fewer : AllByRecursion (λ later. is_idle later.heap.collector.phase ≡ false → later.heap.collector.quanta < quanta) (moments machine events)
  pub trigger : opened_by quanta config (intervals [] machine events) ≤ config.trigger + 1
  pub free : opened_by (quanta - machine.heap.collector.quanta) config (intervals [] machine events) ≤ free_of machine
  pub left : AllByRecursion (λ ended. opened_by quanta config (intervals [] machine events) ≤ free_of ended) (cycle_ends machine events)

-- With room from any moment of a run on, whatever came before, no later reply is `heap full`, and no later object goes into a flagged page. From the opening
-- on this wants as many pages as any N intervals in a row open
abbrev pub RoomFromAMomentSuffices : Type 0
RoomFromAMomentSuffices = (config : Config) (before events : List Event) (quanta : ℕ) →
    let machine = machine_after (first_machine config) before in
    1 ≤ quanta → HasRoomFrom config machine events quanta → AllByRecursion (λ answer. is_heap_full answer ≡ false) (machine_replies machine events) × LeaveFlagged machine events

-- The bound --------------------------------------------------------------------------------------

-- No cycle of any run takes more quanta than the bound of a cycle
abbrev pub CyclesTakeTheBound : Type 0
CyclesTakeTheBound = (config : Config) (events : List Event) → CyclesTakeAtMost (most_quanta config) config events
