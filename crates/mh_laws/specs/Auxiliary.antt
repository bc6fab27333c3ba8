-- Auxiliary definitions: what loops, private functions and the insides of types keep. No public contract depends on them.
use Rattle.std.specs.Prelude.{◌≡◌, ℕ, ◌+◌, ◌≤◌, Some}
use Rattle.mh_model.specs.{declared.command.Command.Command, World.{most_fields, own_slot}}
use Rattle.mh_model.specs.{Table.{Made, Block, made_group}, Collector.{Collector, collector_step, quantum}}
use Rattle.mh_model.specs.{Mutator.{HeapState, new_group, with_born, mutator_step}, declared.config.Config.Config}
use Rattle.mh_model.specs.{declared.command.Event.Event, Pages.Table, Classes.parts, Auxiliary.HasItsPages}
use Rattle.mh_model.specs.Machine.{Machine, half_step, event_step}
use Rattle.mh_table_laws.specs.Tables.{KeepsItsPages}

-- a new object whose parts are made, and which its slot names
pub record IsBorn (heap : HeapState) (who slot references numbers : ℕ) : Type 0 where
  pub made : Made
  pub group : new_group heap references numbers ≡ Some made
  pub state : (mutator_step heap who (Command.New slot references numbers)).state ≡ with_born heap (own_slot who slot) made

-- an event that keeps its pages, half and whole: the number of pages, the slots of the class of each page in use, and blocks within the limits; these
-- allow the most fields of the rules
pub record EventKeeps (machine : Machine) (event : Event) : Type 0 where
  pub half : KeepsItsPages (most_fields machine.heap.config) machine.heap.collector.table (half_step machine event).heap.collector.table
  pub whole : KeepsItsPages (most_fields machine.heap.config) machine.heap.collector.table (event_step machine event).state.heap.collector.table

-- A table with the configured pages, their slots, and blocks within the most fields stays one: after a command, a step, a quantum, and making an
-- object that the rules allow
pub record TablesKeepTheirPages : Type 0 where
  pub commands : (heap : HeapState) (who : ℕ) (command : Command) → HasItsPages heap.config heap.collector.table → HasItsPages heap.config (mutator_step heap who command).state.collector.table
  pub steps : (config : Config) (collector : Collector) → HasItsPages config collector.table → HasItsPages config (collector_step collector).table
  pub quanta : (config : Config) (collector : Collector) → HasItsPages config collector.table → HasItsPages config (quantum config collector).collector.table
  pub made : (config : Config) (table : Table Block) (birth stamp references numbers : ℕ) (made : Made) → references + numbers ≤ most_fields config → made_group table birth stamp (parts references numbers) ≡ Some made → HasItsPages config table → HasItsPages config made.table
