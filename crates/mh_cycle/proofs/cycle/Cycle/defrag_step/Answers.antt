use Rattle.std.proofs.Common.{arith}
use Rattle.mh_cycle.proofs.StepLemmas.{beside-ends, beside-goes}
use Rattle.mh_cycle.proofs.cycle.Cycle.defrag_step.Goals as goal

pub returns-then-page-len : goal.returns-then-page-len
returns-then-page-len c = grind (arith, beside-ends)

pub returns-else-page-len : goal.returns-else-page-len
returns-else-page-len c = grind (arith, beside-goes)
