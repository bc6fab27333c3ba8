-- What quanta spend, and what their steps cost.
use Rattle.std.specs.Prelude.{◌≤◌, Bool, List}
use Rattle.mh_model.specs.{declared.config.Config.Config, declared.command.Event.Event}
use Rattle.mh_model.specs.{Collector.{Collector, step_cost, quantum}, Machine.{first_machine, half_step, machine_after}}
use Rattle.mh_model.specs.{CycleBounds.IsInBounds, Limits.least_quantum}
use Rattle.mh_table_laws.specs.Tables.{IsSized}

-- No quantum spends more units than are configured
abbrev pub QuantumKeepsItsLimit : Type 0
QuantumKeepsItsLimit = (config : Config) (collector : Collector) → (quantum config collector).units ≤ config.quantum

-- The next step costs at most 209 if classes have at most 64 words and blocks at most 60 references. So they have wherever a collector is within the
-- bounds of its cycle, and at every moment of every run, half steps included
pub record DearestStepCosts209 : Type 0 where
  pub costs : (collector : Collector) (has_moved : Bool) → IsSized collector.table → step_cost collector has_moved ≤ least_quantum
  pub in_bounds : (config : Config) (collector : Collector) → IsInBounds config collector → IsSized collector.table
  pub after_events : (config : Config) (events : List Event) → IsSized (machine_after (first_machine config) events).heap.collector.table
  pub after_commands : (config : Config) (events : List Event) (event : Event) → IsSized (half_step (machine_after (first_machine config) events) event).heap.collector.table
