use Rattle.mh_reasons.proofs.OperandLemmas.{passed_more}
use Rattle.mh_reasons.proofs.operands.first_fault.Goals as goal

pub loop-most-preserved : goal.loop-most-preserved
loop-most-preserved c = passed_more _ _ _ _ _ _ c.loop-most.invariant c.loop-most-test.true c.in_ok-word.ensures.next c.in_default.ensures.none
