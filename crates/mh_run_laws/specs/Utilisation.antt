-- Quanta within their bound, and the mutator's share of each stretch of a trace.
use Rattle.std.specs.Prelude.{◌≡◌, ℕ, ◌+◌, ◌<◌, ◌≤◌, ◌-◌, false, Some, List}
use Rattle.mh_model.specs.{declared.command.Event.Event, declared.config.Config.Config}
use Rattle.mh_model.specs.{Collector.{Collector, is_idle, quantum}, Trace.{TraceState, least_mutator, floor}}
use Rattle.mh_model.specs.{Machine.{first_machine, half_step, machine_after}, Limits.least_quantum}

-- a quantum of this collector that leaves its cycle running leaves at most 208 units
abbrev pub LeavesLittle : Config → Collector → Type 0
LeavesLittle config collector = is_idle (quantum config collector).collector.phase ≡ false → config.quantum ≤ (quantum config collector).units + (least_quantum - 1)

-- The greatest quantum of a run spends no more than is configured. At every moment, half moments included, a quantum that leaves its cycle running
-- leaves at most 208 units
pub record QuantaStayWithinTheirBound : Type 0 where
  pub greatest : (config : Config) (events : List Event) → (machine_after (first_machine config) events).trace.greatest ≤ config.quantum
  pub after_events : (config : Config) (events : List Event) → LeavesLittle config (machine_after (first_machine config) events).heap.collector
  pub after_commands : (config : Config) (events : List Event) (event : Event) → LeavesLittle config (half_step (machine_after (first_machine config) events) event).heap.collector

-- the mutator's share of each stretch of a trace: at least the floor of its length in units of the mutator
abbrev pub HasShare : Config → TraceState → Type 0
HasShare config trace = (window count : ℕ) → least_mutator window trace.letters ≡ Some count → floor config.every config.quantum window ≤ count

-- If the scheduler runs quanta, each stretch of the trace has at least the floor of its length in units of the mutator
-- from: Cheng and Blelloch
pub record MutatorHasItsShare : Type 0 where
  pub after_events : (config : Config) (events : List Event) → 0 < config.every → HasShare config (machine_after (first_machine config) events).trace
  pub after_commands : (config : Config) (events : List Event) (event : Event) → 0 < config.every → HasShare config (half_step (machine_after (first_machine config) events) event).trace
