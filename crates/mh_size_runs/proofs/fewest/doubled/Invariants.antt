use Rattle.std.proofs.Common.{◌-◌, ◌≤◌}
use Rattle.mh_size_runs.specs.Auxiliary.{IsFew}
use Rattle.mh_size_runs.proofs.fewest.doubled.Given as goal

abbrev pub invariant-loop-few : goal.invariant-loop-few
invariant-loop-few g l = record {
  most : l.few ≤ 4096;
  few : IsFew l.fn.config l.fn.events l.few l.latest;
}

abbrev pub decreases-loop-few : goal.decreases-loop-few
decreases-loop-few g l = 4096 - l.few
