-- Runs: what one gives back, and when that is the machine's.
use Rattle.std.specs.Prelude.{◌≡◌, ℕ, Some, List, ◌∷◌, ◌++◌, length, slice_get}
use Rattle.mh_model.specs.{declared.command.Event.Event, declared.config.Config.Config, declared.reply.Reply.Reply}
use Rattle.mh_model.specs.{Pages.free_pages, Mutator.HeapState, Machine.{Machine, first_machine, machine_replies}}
use Rattle.mh_model.specs.Trace.{TraceState}
use Rattle.mh_run_laws.specs.Replays.{machine_at}

-- What a run gives back: the reply to each event, the heap, how many of its pages are free, and the trace
pub record Outcome : Type 0 where
  pub replies : List Reply
  pub heap : HeapState
  pub free : ℕ
  pub trace : TraceState

-- what a machine shows of a run, beside the replies that it gave
abbrev pub outcome_of : Machine → List Reply → Outcome
outcome_of machine replies = record { replies = replies; heap = machine.heap; free = free_pages machine.heap.collector.table; trace = machine.trace }

-- an event of a run, with the events before it, and the reply that it was given
pub record IsAnswered (events : List Event) (replies : List Reply) (before : List Event) (event : Event) (reply : Reply) : Type 0 where
  pub later : List Event
  pub split : events ≡ before ++ event ∷ later
  pub given : slice_get replies (length before) ≡ Some reply

-- The replies, the heap, the free pages and the trace are those of the machine after the same events
pub record IsTheMachines (config : Config) (events : List Event) (outcome : Outcome) : Type 0 where
  pub replies : outcome.replies ≡ machine_replies (first_machine config) events
  pub heap : outcome.heap ≡ (machine_at config events).heap
  pub free : outcome.free ≡ free_pages outcome.heap.collector.table
  pub trace : outcome.trace ≡ (machine_at config events).trace

-- A run that stopped early did the first of its events, left the others, and gave the machine's replies to those it did
pub record AreAnsweredSoFar (config : Config) (events : List Event) (replies : List Reply) : Type 0 where
  pub done : List Event
  pub left : List Event
  pub split : events ≡ done ++ left
  pub machines : replies ≡ machine_replies (first_machine config) done
