-- The grey list has room: no place stands twice in it, and each holds a marked block.
use Rattle.std.specs.{Prelude.{◌≢◌, ℕ, List}, List.AllByRecursion}
use Rattle.mh_model.specs.{declared.command.Event.Event, declared.config.Config.Config, Collector.marking_of}
use Rattle.mh_model.specs.Mutator.{HeapState}
use Rattle.mh_table_laws.specs.Marking.{IsSettled}
use Rattle.mh_laws.specs.Deeds.{Deed, heap_after, heap_at, with_cycle}

-- a place that is settled after some steps and commands stays out of the grey list after more, for the rest of the cycle
abbrev pub StaysOut : HeapState → Type 0
StaysOut heap = (deeds more : List Deed) (place : ℕ) → IsSettled (marking_of (heap_after heap deeds).collector) place → AllByRecursion (λ other. other ≢ place) (heap_after (heap_after heap deeds) more).collector.grey

-- A place that holds a marked block and isn't grey doesn't turn grey again in its cycle. So in a cycle a place enters the list at most once
pub record NoPlaceTurnsGreyAgain : Type 0 where
  pub from_moments : (config : Config) (events : List Event) (event : Event) → StaysOut (heap_at config events event)
  pub from_starts : (config : Config) (events : List Event) (event : Event) → StaysOut (with_cycle (heap_at config events event))
