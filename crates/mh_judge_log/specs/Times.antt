-- Orders against the times of their commands.
use Rattle.std.specs.Prelude.{ℕ, ◌<◌, ◌≤◌, List, length, slice_index_or, AllPairs}
use Rattle.mh_judge_log.specs.declared.timed.Timed.{Timed}

-- no command comes before one that had ended before it began
abbrev pub KeepsTime : List Timed → Type 0
KeepsTime order = AllPairs (λ timed later. timed.begin ≤ later.end) order

-- the command at a place had ended before one began that comes before it
pub record IsLateAfter (order : List Timed) (earlier place : ℕ) : Type 0 where
  pub comes_before : earlier < place
  pub within : place < length order
  pub ended : (d : Timed) → (slice_index_or order place d).end < (slice_index_or order earlier d).begin
