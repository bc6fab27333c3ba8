-- The line of a cycle.
use Rattle.std.specs.Prelude.{ℕ, suc, ◌+◌, ◌-◌, Bool, true, false, if◌then◌else◌, Option, Some, None, List, [], ◌++◌, codes, decimal, flat_map, length}
use Rattle.mh_model.specs.{declared.command.Event.Event, declared.config.Config.Config}
use Rattle.mh_model.specs.{declared.cycle.Phase.TheVariants.{Roots, Mark, Sweep, Defrag}, Bytes.Text, Collector.is_idle}
use Rattle.mh_model.specs.{Deeds.account_of, Machine.{Machine, event_step, stat_on}}
use Rattle.mh_model.specs.Trace.{mutator_count, collector_count}
use Rattle.mh_machine.specs.Running.{Running, first_running}
use Rattle.mh_script.specs.Lines.{Told}
use Rattle.mh_tell_laws.specs.Cycles.{Cycle, cycles_of, has_ended, deeds_in_cycle, quanta_in_cycle, counted, marks, makes, opens, shades, frees, drops, empties, comes_to_sparse, moves, words_moved, phase_units, longest_grey, cycle_number, was_asked, units_before, mutator_units, collector_units, greatest_spent, stat_before, stat_after}
use Rattle.mh_tell_cycles.specs.{declared.line.CycleLine.CycleLine, declared.line.Ending.Ending}
use Rattle.mh_tell_cycles.specs.{declared.underway.BlockCounts.BlockCounts, declared.tally.DeedCounts.DeedCounts}
use Rattle.mh_tell_cycles.specs.{declared.tally.Units.Units, declared.underway.Underway.Underway}
use Rattle.mh_tell_cycles.specs.declared.watch.Watch.{Watch}
use Rattle.mh_tell_cycles.specs.Tallies.{blocks_of_stat, first_watch, watch_next, watch_noted}

-- Numbers ----------------------------------------------------------------------------------------

-- the units of a cycle by its phases
abbrev pub units_of_cycle : Cycle → Units
units_of_cycle cycle = record { roots = phase_units cycle Roots; mark = phase_units cycle Mark; sweep = phase_units cycle Sweep; defrag = phase_units cycle Defrag }

-- what the deeds of a cycle count
abbrev pub counts_of_cycle : Cycle → DeedCounts
counts_of_cycle cycle = record {
  marked = counted marks cycle;
  made = counted makes cycle;
  opened = counted opens cycle;
  shaded = counted shades cycle;
  freed = counted frees cycle;
  dropped = counted drops cycle;
  emptied = counted empties cycle;
  sparse = counted comes_to_sparse cycle;
  moved = counted moves cycle;
  words = counted words_moved cycle;
}

-- how a cycle ended: its last event, the units of the trace after that, and what was in the heap
abbrev pub ending_of : Cycle → Ending
ending_of cycle = record { event = cycle.last; at = units_before cycle.now; blocks = blocks_of_stat (stat_after cycle) }

-- The line of a cycle
abbrev pub line_of : Cycle → CycleLine
line_of cycle = record {
  number = cycle_number cycle;
  is_asked = was_asked cycle;
  first = cycle.first;
  at = units_before cycle.start;
  quanta = length (quanta_in_cycle cycle);
  greatest = greatest_spent (quanta_in_cycle cycle);
  mutator = mutator_units cycle;
  collector = collector_units cycle;
  units = units_of_cycle cycle;
  counts = counts_of_cycle cycle;
  grey = longest_grey 0 (deeds_in_cycle cycle);
  before = blocks_of_stat (stat_before cycle);
  ending = if has_ended cycle then Some (ending_of cycle) else None;
}

-- the line of a cycle that is kept so, after an event of this number that left this machine
abbrev pub line_after : Underway → ℕ → Machine → CycleLine
line_after cycle number machine = record {
  number = cycle.number;
  is_asked = cycle.is_asked;
  first = cycle.first;
  at = cycle.mutator + cycle.collector;
  quanta = cycle.quanta;
  greatest = cycle.greatest;
  mutator = mutator_count machine.trace.letters - cycle.mutator;
  collector = collector_count machine.trace.letters - cycle.collector;
  units = cycle.tally.units;
  counts = cycle.tally.counts;
  grey = cycle.tally.longest;
  before = cycle.before;
  ending = if is_idle machine.heap.collector.phase then Some (record { event = number; at = units_before machine; blocks = blocks_of_stat (stat_on machine.heap.collector) }) else None;
}

-- Words ------------------------------------------------------------------------------------------

-- why a cycle started
abbrev pub cause_word : Bool → Text
cause_word true = codes "asked"
cause_word false = codes "trigger"

-- when it ran: its first and last event, and the units of the run before and after it. The last isn't known of a cycle that still runs
abbrev pub times_text : ℕ → ℕ → Option Ending → Text
times_text first at None = codes " events " ++ (decimal first ++ (codes " none at " ++ (decimal at ++ codes " none")))
times_text first at (Some ending) = codes " events " ++ (decimal first ++ (codes " " ++ (decimal ending.event ++ (codes " at " ++ (decimal at ++ (codes " " ++ decimal ending.at))))))

-- the head of a line: the number of the cycle, why it started, and when it ran
abbrev pub head_text : CycleLine → Text
head_text line = (codes "cycle " ++ (decimal line.number ++ (codes " cause " ++ cause_word line.is_asked))) ++ times_text line.first line.at line.ending

-- what it spent, also by phases
abbrev pub units_text : Units → Text
units_text units = codes " roots " ++ (decimal units.roots ++ (codes " mark " ++ (decimal units.mark ++ (codes " sweep " ++ (decimal units.sweep ++ (codes " defrag " ++ decimal units.defrag))))))

abbrev pub spent_text : CycleLine → Text
spent_text line =
    (codes " quanta " ++ (decimal line.quanta ++ (codes " greatest " ++ (decimal line.greatest ++ (codes " mutator " ++ (decimal line.mutator ++ (codes " collector " ++ decimal line.collector))))))) ++ units_text line.units

-- what was marked, with what was made and shaded meanwhile, and what was freed and moved
abbrev pub marking_text : DeedCounts → ℕ → Text
marking_text counts grey =
    codes " marked " ++ (decimal counts.marked ++ (codes " made " ++ (decimal counts.made ++ (codes " opened " ++ (decimal counts.opened ++ (codes " shaded " ++ (decimal counts.shaded ++ (codes " grey " ++ decimal grey))))))))

abbrev pub freeing_text : DeedCounts → Text
freeing_text counts =
    codes " freed " ++ (decimal counts.freed ++ (codes " dropped " ++ (decimal counts.dropped ++ (codes " emptied " ++ (decimal counts.emptied ++ (codes " sparse " ++ (decimal counts.sparse ++ (codes " moved " ++ (decimal counts.moved ++ (codes " words " ++ decimal counts.words))))))))))

abbrev pub counts_text : DeedCounts → ℕ → Text
counts_text counts grey = marking_text counts grey ++ freeing_text counts

-- what was in the heap before it and after it, with the end of the line
abbrev pub blocks_text : BlockCounts → Option Ending → Text
blocks_text before None = codes " free " ++ (decimal before.free ++ (codes " none live " ++ (decimal before.live ++ (codes " none old " ++ (decimal before.old ++ codes " none\n")))))
blocks_text before (Some ending) =
    let after = ending.blocks in
    codes " free " ++ (decimal before.free ++ (codes " " ++ (decimal after.free ++ (codes " live " ++ (decimal before.live ++ (codes " " ++ (decimal after.live ++ (codes " old " ++ (decimal before.old ++ (codes " " ++ (decimal after.old ++ codes "\n")))))))))))

-- The text of a line
abbrev pub line_text : CycleLine → Text
line_text line = head_text line ++ (spent_text line ++ (counts_text line.counts line.grey ++ blocks_text line.before line.ending))

-- What a run writes of its cycles: a line for each
abbrev pub cycles_text : Config → List Event → Text
cycles_text config events = flat_map (λ cycle. line_text (line_of cycle)) (cycles_of config events)

-- the line of what is kept of a cycle, if one is
abbrev pub kept_text : Option Underway → ℕ → Machine → Text
kept_text None number machine = []
kept_text (Some cycle) number machine = line_text (line_after cycle number machine)

-- what is written as a cycle is forgotten: its line, if it has ended
abbrev pub closed_text : ℕ → Watch → Machine → Text
closed_text number watch machine = if is_idle watch.stat.phase then kept_text watch.cycle number machine else []

-- what an event writes: the line of a cycle that it ends
abbrev pub told_text : ℕ → Watch → Machine → Event → Text
told_text number watch machine event = let after = (event_step machine event).state in closed_text number (watch_noted number watch event after (account_of machine event)) after

-- Runs -------------------------------------------------------------------------------------------

-- A run with its cycles: its machine, how many events it has done, and what is known
pub record Stage : Type 0 where
  pub machine : Machine
  pub done : ℕ
  pub watch : Watch

abbrev pub stage_of : Running → Watch → Stage
stage_of running watch = record { machine = running.machine; done = running.done; watch = watch }

abbrev pub first_stage : Config → Stage
first_stage config = stage_of (first_running config) (first_watch (stat_on (first_running config).machine.heap.collector))

abbrev pub stage_after : Stage → Event → Stage
stage_after at event = record { machine = (event_step at.machine event).state; done = suc at.done; watch = watch_next (suc at.done) at.watch at.machine event }

-- What each event writes, and after the last the line of a cycle that still runs
abbrev pub cycles_told : Told Stage Event
cycles_told = record { next = stage_after; line = λ at event. told_text (suc at.done) at.watch at.machine event; last = λ at. kept_text at.watch.cycle at.done at.machine }
