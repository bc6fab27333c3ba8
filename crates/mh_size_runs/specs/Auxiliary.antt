-- Auxiliary definitions: what loops, private functions and the insides of types keep. No public contract depends on them.
use Rattle.std.specs.Prelude.{◌≡◌, List, [], map, length, ℕ, Bool, true, false, Some, None, ◌∷◌, ◌++◌, ◌+◌, nat_lt, not, ◌&&◌, ◌||◌, if◌then◌else◌, zero, suc, ◌<◌, ◌≤◌, Result, Ok, Err}
use Rattle.mh_model.specs.{Classes.{Part, class_sizes}, Openings.{class_parts, opens_at_most, pages_of_parts}}
use Rattle.mh_model.specs.{declared.command.Event.Event, declared.config.Config.Config, Intervals.cycle_ends}
use Rattle.mh_model.specs.{Machine.{first_machine, Machine}, Collector.{Collector, is_idle}, Pages.free_pages}
use Rattle.mh_size_runs.specs.{declared.class_counts.ClassCounts.ClassCounts, declared.watched.Facts.Facts}
use Rattle.mh_size_runs.specs.Seen.{fewest_left, free_at_start, most_quanta_of, MeetsTheLaw, seen_in}
use Rattle.mh_size_runs.specs.{declared.rows.Looked.Looked, declared.seen.HasRoom.HasRoom}
use Rattle.mh_size_runs.specs.{declared.seen.HasRoom.TheVariants.{Yes, No}, Full.first_full, Tried.{IsFull, IsFitting}}
use Rattle.mh_size_runs.specs.{declared.sample.Sample.Sample, declared.sample.Stage.Stage, declared.fewest.Span.Span}
use Rattle.mh_size_runs.specs.declared.watched.Watched.{Watched}
use Rattle.mh_size_laws.specs.Room.{later_intervals}

-- Blocks counted by their classes.

-- the counts of some parts by class
abbrev pub HasCounted : ClassCounts → List Part → Type 0
HasCounted counted parts = counted.counts ≡ map (λ size. class_parts size parts) class_sizes

-- The facts of a run: its cycles and what its intervals open.

-- how many cycles ended, the most quanta of one, what they left, what was free after the first start, and what each later interval opens
pub record HasFacts (config : Config) (events : List Event) (facts : Facts) : Type 0 where
  pub cycles : facts.cycles ≡ length (cycle_ends (first_machine config) events)
  pub quanta : facts.quanta ≡ most_quanta_of config events
  pub left : facts.left ≡ fewest_left config events
  pub start : facts.start ≡ free_at_start config events
  pub opened : facts.opened.items ≡ map (opens_at_most config) (later_intervals (first_machine config) events)

-- there is no room, though a cycle has run
abbrev pub is_roomless : HasRoom → Bool
is_roomless No = true
is_roomless _ = false

-- What looking at a run in one heap came to: the first event that is answered by a full heap, or what is seen
abbrev pub IsLooked : Config → List Event → ℕ → Looked → Type 0
IsLooked heap events window (Looked.Full event) = first_full heap events ≡ Some event
IsLooked heap events window (Looked.Fits seen) = (first_full heap events ≡ None) × (seen ≡ seen_in heap events window) × (seen.room ≡ Yes → MeetsTheLaw heap events seen.quanta)

-- What is read of a machine between two events, and what two readings say of the event between them.

abbrev pub stage_of : Collector → Stage
stage_of collector = record { is_idle = is_idle collector.phase; cycle = collector.cycle }

abbrev pub sample_of : Machine → Sample
sample_of machine = record {
  stage = stage_of machine.heap.collector;
  free = free_pages machine.heap.collector.table;
  quanta = machine.heap.collector.quanta;
  quanta_run = machine.trace.quanta;
}

-- a cycle has ended between two stages, which is `has_ended` of their collectors
abbrev pub ended_between : Stage → Stage → Bool
ended_between old new = new.is_idle && (not old.is_idle || nat_lt old.cycle new.cycle)

-- how many quanta a cycle takes at least, by two samples, which is `quanta_taken` of their collectors
abbrev pub quanta_between : Sample → Sample → ℕ
quanta_between old new = if ended_between old.stage new.stage then old.quanta + 1 else (if new.stage.is_idle then 0 else new.quanta + 1)

-- The ends of a search for pages.

-- fewer pages don't suffice, or are none
abbrev pub IsFew : Config → List Event → ℕ → ℕ → Type 0
IsFew config events zero event = Unit {0}
IsFew config events (suc pages) event = IsFull config events (suc pages) event

-- so many pages suffice, and fewer don't
pub record IsSpan (config : Config) (events : List Event) (span : Span) : Type 0 where
  pub order : span.few < span.enough
  pub most : span.enough ≤ 4096
  pub few : IsFew config events span.few span.event
  pub fits : IsFitting config events span.enough span.trigger

-- doubling has found such pages, or the most don't suffice
abbrev pub IsSpanned : Config → List Event → Result Span ℕ → Type 0
IsSpanned config events (Ok span) = IsSpan config events span
IsSpanned config events (Err event) = IsFull config events 4096 event

-- What an event adds to what has been seen of a run.

-- the cycles, their quanta and what they leave are as they were
pub record HasSameCounts (old new : Watched) : Type 0 where
  pub cycles : new.cycles ≡ old.cycles
  pub quanta : new.quanta ≡ old.quanta
  pub left : new.left ≡ old.left

-- the cycles, their quanta, what they leave and the start of the first are as they were
pub record HasSameCycles (old new : Watched) : Type 0 where
  pub counts : HasSameCounts old new
  pub start : new.start ≡ old.start

-- before the first cycle an event either starts it, and then so many pages are free, or leaves all as it was
pub record Starts (before after : Sample) (old new : Watched) : Type 0 where
  pub start : new.start ≡ (if nat_lt 0 after.stage.cycle then Some after.free else None)
  pub opened : new.opened.items ≡ old.opened.items
  pub running : new.running ≡ old.running

-- after that an event asks for some blocks in the interval that runs, and ends it if it has a quantum run
pub record GoesOn (asked : List Part) (ends : Bool) (old new : Watched) : Type 0 where
  pub start : new.start ≡ old.start
  pub on : ends ≡ false → (new.opened.items ≡ old.opened.items) × ((parts : List Part) → HasCounted old.running parts → HasCounted new.running (parts ++ asked))
  pub ended : ends ≡ true → HasCounted new.running [] × ((parts : List Part) → HasCounted old.running parts → new.opened.items ≡ old.opened.items ++ pages_of_parts (parts ++ asked) ∷ [])
