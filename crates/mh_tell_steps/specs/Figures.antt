-- The figures of steps that tools alone read: where in the trace an event stands, and what is in the heap after it.
use Rattle.std.specs.Prelude.{ℕ, ◌+◌, ◌-◌, Option, Some, None, List, [], ◌∷◌, codes, length}
use Rattle.mh_model.specs.{Collector.Collector, Deeds.Ran, Machine.{Machine, stat_on}, Trace.mutator_count}
use Rattle.mh_tell_steps.specs.{declared.figures.HeapCounts.HeapCounts, declared.figures.EventSpan.EventSpan}
use Rattle.mh_tell_steps.specs.Fields.{Number, Field, field}

-- what is in the heap of a collector: what `stat` counts, and the grey blocks
abbrev pub counts_of : Collector → HeapCounts
counts_of collector = let stat = stat_on collector in record { free = stat.free; live = stat.live; old = stat.old; grey = length collector.grey }

-- where an event stands that has this number, and takes the first machine to the second
abbrev pub moment_of : ℕ → Machine → Machine → EventSpan
moment_of number before after = record { number = number; at = length before.trace.letters; mutator = mutator_count after.trace.letters - mutator_count before.trace.letters }

-- the units of the trace before the quantum of an event: it follows what the event adds of the mutator
abbrev pub quantum_at : EventSpan → ℕ
quantum_at moment = moment.at + moment.mutator

-- what a quantum spent, if one was run
abbrev pub spent_by : Option Ran → ℕ
spent_by None = 0
spent_by (Some ran) = ran.ended.units

-- the fields of a place in the trace, of units of the mutator, and of counts
abbrev pub at_field : ℕ → Field
at_field at = field (codes "at") (Number at)

abbrev pub mutator_field : ℕ → Field
mutator_field mutator = field (codes "mutator") (Number mutator)

abbrev pub counts_fields : HeapCounts → List Field
counts_fields counts = field (codes "free") (Number counts.free) ∷ field (codes "live") (Number counts.live) ∷ field (codes "old") (Number counts.old) ∷ field (codes "grey") (Number counts.grey) ∷ []
