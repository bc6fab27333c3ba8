-- Programs that ask for blocks no faster than a rate, and the pages that are room for all of them.
use Rattle.std.specs.Prelude.{◌≡◌, ℕ, ◌+◌, ◌-◌, ◌*◌, ◌/◌, ◌≤◌, min, max, if◌then◌else◌, length, List, [], ◌∷◌, ◌++◌}
use Rattle.std.specs.List.{AllByRecursion, sum_by, flat_map}
use Rattle.mh_model.specs.{declared.command.Event.Event, declared.config.Config.Config, Classes.{class_sizes, slots_in}}
use Rattle.mh_model.specs.Machine.{Machine, first_machine, command_step, command_units, event_step, machine_after}
use Rattle.mh_model.specs.{Snapshot.is_heap_full, Openings.{asked_parts, class_parts, pages_for, free_of}}
use Rattle.mh_model.specs.{Intervals.{cycle_ends, CyclesTakeAtMost, IsNeverFull}, declared.reply.Reply.Reply}

-- Programs ---------------------------------------------------------------------------------------

-- how many units of the mutator an event is: those of its command with its reply, and none of a control. What a full heap refuses counts as if it were made
abbrev pub event_units : Machine → Event → ℕ
event_units machine (Event.Session who command) =
    let answer = (command_step machine who command).reply in
    command_units machine.heap.config command (if is_heap_full answer then Reply.Done else answer)
event_units machine (Event.Control control) = 0

-- how many units of the mutator these events are together
abbrev pub units_in : Machine → List Event → ℕ
units_in machine [] = 0
units_in machine (event ∷ events) = event_units machine event + units_in (event_step machine event).state events

-- what is allowed grows with the units, in each class
abbrev pub Grows : (ℕ → ℕ → ℕ) → Type 0
Grows allowed = (size less more : ℕ) → less ≤ more → allowed size less ≤ allowed size more

-- The sessions of a run keep to a rate: in no stretch of it they ask for more blocks of a class than are allowed for the units of the mutator in that
-- stretch. Of a class size and so many units `allowed` says how many blocks. No object has more than so many blocks. What is refused counts too
pub record KeepToRate (allowed : ℕ → ℕ → ℕ) (most : ℕ) (config : Config) (events : List Event) : Type 0 where
  pub objects : AllByRecursion (λ event. length (asked_parts config event) ≤ most) events
  pub asked : (before stretch later : List Event) → before ++ (stretch ++ later) ≡ events → (size : ℕ) →
      class_parts size (flat_map (asked_parts config) stretch) ≤ allowed size (units_in (machine_after (first_machine config) before) stretch)

-- Pages ------------------------------------------------------------------------------------------

-- the most units of the mutator in an interval: fewer than run a quantum before its last command, and those of that
abbrev pub interval_units : ℕ → ℕ → ℕ
interval_units every most = every - 1 + max 1 most

-- the most pages of a class that so many intervals in a row open: each as many as its own blocks fill, or all together as their blocks fill if each begins
-- a page
abbrev pub class_opens : (ℕ → ℕ → ℕ) → ℕ → ℕ → ℕ → ℕ
class_opens allowed units quanta size =
    min (quanta * pages_for size (allowed size units)) ((allowed size (quanta * units) + quanta * (slots_in size - 1)) / slots_in size)

-- the most pages of all classes that so many intervals in a row open
abbrev pub opens_at_rate : (ℕ → ℕ → ℕ) → ℕ → ℕ → ℕ
opens_at_rate allowed units quanta = sum_by (class_opens allowed units quanta) class_sizes

-- A heap has room for all programs that keep to a rate, whose cycles take at most so many quanta and leave at most so many pages in use: its pages have room
-- for those in use and for what so many intervals in a row open, and its trigger and one more for what they open
pub record HasRoomAtRate (allowed : ℕ → ℕ → ℕ) (most quanta used : ℕ) (config : Config) : Type 0 where
  pub scheduled : 1 ≤ config.every
  pub pages : used + opens_at_rate allowed (interval_units config.every most) quanta ≤ config.pages
  pub trigger : opens_at_rate allowed (interval_units config.every most) quanta ≤ config.trigger + 1

-- each cycle of a run leaves at most so many pages in use
abbrev pub LeaveInUse : ℕ → Config → List Event → Type 0
LeaveInUse used config events = AllByRecursion (λ ended. config.pages ≤ used + free_of ended) (cycle_ends (first_machine config) events)

-- In a heap with room at a rate no program is full that keeps to the rate, whose cycles take at most so many quanta and leave at most so many pages in use
abbrev pub RoomAtRateSuffices : Type 0
RoomAtRateSuffices = (allowed : ℕ → ℕ → ℕ) (most quanta used : ℕ) (config : Config) (events : List Event) → Grows allowed → 1 ≤ quanta → HasRoomAtRate allowed most quanta used config
    → KeepToRate allowed most config events → CyclesTakeAtMost quanta config events → LeaveInUse used config events → IsNeverFull config events
