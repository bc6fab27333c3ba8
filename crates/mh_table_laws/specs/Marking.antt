-- Mark steps one after another, and places that are settled.
use Rattle.std.specs.{Prelude.{◌≢◌, ℕ, zero, suc}, List.AllByRecursion}
use Rattle.mh_model.specs.{Collector.{Marking, mark_step}, CycleBounds.IsMarkedIn}

-- a place with a marked block that isn't in the grey list
pub record IsSettled (marking : Marking) (place : ℕ) : Type 0 where
  pub marked : IsMarkedIn marking.table marking.cycle place
  pub apart : AllByRecursion (λ other. other ≢ place) marking.grey

-- what marking works on after so many mark steps
abbrev pub mark_steps : ℕ → Marking → Marking
mark_steps zero marking = marking
mark_steps (suc count) marking = mark_steps count (mark_step marking)
