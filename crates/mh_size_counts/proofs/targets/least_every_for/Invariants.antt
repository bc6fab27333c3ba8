use Rattle.std.proofs.Common.{◌-◌, ◌<◌, ◌≤◌}
use Rattle.mh_size_counts.specs.Targets.{IsMetBy}
use Rattle.mh_size_counts.proofs.targets.least_every_for.Given as goal

abbrev pub invariant-loop-met : goal.invariant-loop-met
invariant-loop-met l = record {
  order : l.unmet < l.met;
  most : l.met ≤ 1000000;
  met : IsMetBy l.target l.met l.quantum;
  unmet : 1 ≤ l.unmet → IsMetBy l.target l.unmet l.quantum → ⊥;
}

abbrev pub decreases-loop-met : goal.decreases-loop-met
decreases-loop-met l = l.met - l.unmet
