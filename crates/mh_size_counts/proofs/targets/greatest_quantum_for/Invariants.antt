use Rattle.std.proofs.Common.{◌-◌, ◌<◌, ◌≤◌}
use Rattle.mh_size_counts.specs.Targets.{IsMetBy}
use Rattle.mh_model.specs.Limits.{least_quantum}
use Rattle.mh_size_counts.proofs.targets.greatest_quantum_for.Given as goal

abbrev pub invariant-loop-unmet : goal.invariant-loop-unmet
invariant-loop-unmet l = record {
  least : least_quantum ≤ l.met;
  order : l.met < l.unmet;
  most : l.unmet ≤ 1000001;
  met : IsMetBy l.target l.every l.met;
  unmet : l.unmet ≤ 1000000 → IsMetBy l.target l.every l.unmet → ⊥;
}

abbrev pub decreases-loop-unmet : goal.decreases-loop-unmet
decreases-loop-unmet l = l.unmet - l.met
