-- The laws of cycles: their numbers add up, and so do the units of a quantum.
use Rattle.std.specs.{Prelude.{◌≡◌, ◌+◌, ◌<◌, ◌≤◌, List, length}, List.AllByRecursion}
use Rattle.mh_model.specs.{declared.command.Event.Event, declared.config.Config.Config}
use Rattle.mh_model.specs.{declared.cycle.Phase.TheVariants.{Roots, Mark, Sweep, Defrag}, Bound.most_quanta}
use Rattle.mh_model.specs.{Collector.{Collector, quantum}, Deeds.{units_of, quantum_deeds}, Invariant.IsSteady}
use Rattle.mh_tell_laws.specs.Cycles.{Cycle, cycles_of, quanta_in_cycle, makes, opens, frees, drops, empties, moves, units_before, mutator_units, collector_units, phase_units, counted, stat_before, stat_after}

-- the numbers of a cycle add up: live blocks by those made and those freed, forwarders by those left and those dropped, free pages by those emptied and
-- those opened; all units by those of the mutator and of the collector, and these by the phases. It has no more quanta than `left` counts down from
pub record AddsUp (config : Config) (cycle : Cycle) : Type 0 where
  pub live : (stat_after cycle).live + counted frees cycle ≡ (stat_before cycle).live + counted makes cycle
  pub old : (stat_after cycle).old + counted drops cycle ≡ (stat_before cycle).old + counted moves cycle
  pub free : (stat_after cycle).free + counted opens cycle ≡ (stat_before cycle).free + counted empties cycle
  pub units : units_before cycle.now ≡ units_before cycle.start + (mutator_units cycle + collector_units cycle)
  pub phases : collector_units cycle ≡ phase_units cycle Roots + phase_units cycle Mark + phase_units cycle Sweep + phase_units cycle Defrag
  pub quanta : length (quanta_in_cycle cycle) ≤ most_quanta config

-- For every configuration and list of events, the numbers of each cycle add up, also of one that hasn't ended
abbrev pub CyclesAddUp : Type 0
CyclesAddUp = (config : Config) (events : List Event) → AllByRecursion (AddsUp config) (cycles_of config events)

-- For every configuration and steady collector that has a grey block while it marks, the deeds of a quantum have as many units as it spends
abbrev pub QuantaTellTheirUnits : Type 0
QuantaTellTheirUnits = (config : Config) (collector : Collector) → IsSteady collector → (collector.phase ≡ Mark → 0 < length collector.grey) → units_of (quantum_deeds config collector) ≡ (quantum config collector).units
