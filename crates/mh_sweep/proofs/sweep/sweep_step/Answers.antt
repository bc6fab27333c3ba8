use Rattle.std.proofs.Common.{arith}
use Rattle.mh_sweep.proofs.SweepLemmas.{slot_count_in, used-classed, slots-classed, step-last}
use Rattle.mh_sweep.proofs.sweep.sweep_step.Goals as goal

pub returns-clause-table : goal.returns-clause-table
returns-clause-table c = grind (arith, used-classed, slot_count_in, slots-classed, step-last)
