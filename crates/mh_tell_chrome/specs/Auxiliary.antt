-- Auxiliary definitions: what loops, private functions and the insides of types keep. No public contract depends on them.
use Rattle.std.specs.Prelude.{ℕ, ◌+◌}
use Rattle.mh_tell_steps.specs.declared.figures.HeapCounts.{HeapCounts}

-- how much there is of all that is counted
abbrev pub total : HeapCounts → ℕ
total counts = counts.free + counts.live + counts.old + counts.grey
