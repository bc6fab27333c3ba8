use Rattle.std.proofs.Common.{◌-◌}
use Rattle.mh_size_runs.specs.Auxiliary.{IsSpan}
use Rattle.mh_size_runs.proofs.fewest.halved.Given as goal

abbrev pub invariant-loop-span : goal.invariant-loop-span
invariant-loop-span g l = IsSpan l.fn.config l.fn.events l.span

abbrev pub decreases-loop-span : goal.decreases-loop-span
decreases-loop-span g l = l.span.enough - l.span.few
