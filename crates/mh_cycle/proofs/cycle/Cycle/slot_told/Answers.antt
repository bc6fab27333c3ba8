use Rattle.std.proofs.Common.{arith}
use Rattle.mh_cycle.proofs.ToldLemmas.{sweep-ends, sweep-goes}
use Rattle.mh_cycle.proofs.cycle.Cycle.slot_told.Goals as goal

pub returns-then-page-len-clause-after : goal.returns-then-page-len-clause-after
returns-then-page-len-clause-after g c = grind (arith, sweep-ends)

pub returns-else-page-len-clause-after : goal.returns-else-page-len-clause-after
returns-else-page-len-clause-after g c = grind (arith, sweep-goes)
