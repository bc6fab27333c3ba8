use Rattle.mh_reasons.proofs.OperandLemmas.{Passed}
use Rattle.mh_reasons.proofs.operands.first_fault.Given as goal

abbrev pub invariant-loop-most : goal.invariant-loop-most
invariant-loop-most l = Passed l.greatest l.initial.words l.words l.most-index
