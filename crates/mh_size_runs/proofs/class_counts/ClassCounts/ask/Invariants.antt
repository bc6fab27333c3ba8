use Rattle.std.proofs.Common.{◌≡◌, ◌+◌, ◌++◌, List, take}
use Rattle.mh_model.specs.Classes.{Part}
use Rattle.mh_size_runs.specs.Auxiliary.{HasCounted}
use Rattle.mh_size_runs.proofs.class_counts.ClassCounts.ask.Given as goal

abbrev pub invariant-loop-index : goal.invariant-loop-index
invariant-loop-index l = record {
  total : l.self.total ≡ l.initial.self.total + l.index;
  counted : (parts : List Part) → HasCounted l.initial.self parts → HasCounted l.self (parts ++ take l.index l.asked);
}
