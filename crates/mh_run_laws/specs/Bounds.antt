-- The counts of a run stay within its events.
use Rattle.std.specs.Prelude.{ℕ, suc, ◌+◌, ◌*◌, ◌≤◌, List, length}
use Rattle.mh_model.specs.{declared.command.Event.Event, declared.config.Config.Config}
use Rattle.mh_model.specs.{declared.config.Rules.TheVariants.Second, World.most_fields_under}
use Rattle.mh_model.specs.Classes.{run_count, middle_count}
use Rattle.mh_model.specs.Machine.{Machine, first_machine, half_step, machine_after}

-- the most blocks of an object, 3,661: its first part, the middle spines and the arraylets of the most fields that the rules allow
abbrev pub most_blocks : ℕ
most_blocks = 1 + middle_count (most_fields_under Second) + run_count (most_fields_under Second)

-- the most letters that an event adds to a trace: a unit for each block of an object, and a whole quantum
abbrev pub most_letters : Config → ℕ
most_letters config = config.quantum + most_blocks

-- a machine whose counts are no larger than so many events can make them: births, cycles and quanta; the letters of its trace; and the units since
-- its last quantum
pub record IsWithinItsEvents (count : ℕ) (machine : Machine) : Type 0 where
  pub births : machine.heap.next_birth ≤ count
  pub cycles : machine.heap.collector.cycle ≤ count
  pub quanta : machine.trace.quanta ≤ count
  pub letters : length machine.trace.letters ≤ count * most_letters machine.heap.config
  pub units : machine.units ≤ count * most_blocks

-- At every moment a run has had no more births, cycles and quanta than events, the one under way counted. Its trace has at most 1,003,661 letters for
-- each event: a quantum's units, and the 3,661 blocks of the largest object. The units since the last quantum are at most 3,661 for each event
pub record RunsStayWithinTheirEvents : Type 0 where
  pub after_events : (config : Config) (events : List Event) → IsWithinItsEvents (length events) (machine_after (first_machine config) events)
  pub after_commands : (config : Config) (events : List Event) (event : Event) → IsWithinItsEvents (suc (length events)) (half_step (machine_after (first_machine config) events) event)
  pub few : (config : Config) → most_letters config ≤ 1003661
