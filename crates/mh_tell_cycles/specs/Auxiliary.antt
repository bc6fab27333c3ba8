-- Auxiliary definitions: what loops, private functions and the insides of types keep. No public contract depends on them.
use Rattle.std.specs.Prelude.{length}
use Rattle.mh_model.specs.Trace.{mutator_count, collector_count}
use Rattle.mh_tell_laws.specs.Cycles.{Cycle, deeds_in_cycle, quanta_in_cycle, cycle_number, was_asked, greatest_spent, stat_before}
use Rattle.mh_tell_cycles.specs.{declared.underway.Underway.Underway, Tallies.{first_tally, blocks_of_stat, tally_all}}

-- what is kept of a cycle
abbrev pub underway_of : Cycle → Underway
underway_of cycle = record {
  number = cycle_number cycle;
  first = cycle.first;
  is_asked = was_asked cycle;
  mutator = mutator_count cycle.start.trace.letters;
  collector = collector_count cycle.start.trace.letters;
  before = blocks_of_stat (stat_before cycle);
  quanta = length (quanta_in_cycle cycle);
  greatest = greatest_spent (quanta_in_cycle cycle);
  tally = tally_all first_tally (deeds_in_cycle cycle);
}
