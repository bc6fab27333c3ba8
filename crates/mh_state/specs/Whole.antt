-- Whole runs: what one shows, and how it goes on event by event.
use Rattle.mh_state.specs.declared.run.Outcome.{Outcome}
use Rattle.mh_promise.specs.Runs as promised

-- what a run gives back, as what is promised of it
abbrev pub shown_outcome : Outcome → promised.Outcome
shown_outcome outcome = record { replies = outcome.replies.items; heap = outcome.heap.kept; free = outcome.free; trace = outcome.trace.trace }
