use Rattle.mh_judge_log.proofs.LateLemmas.{KeptBefore}
use Rattle.mh_judge_log.proofs.late.first_late.Given as goal

abbrev pub invariant-loop-place : goal.invariant-loop-place
invariant-loop-place l = KeptBefore l.order l.place l.greatest
