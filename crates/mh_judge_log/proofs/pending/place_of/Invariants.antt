use Rattle.std.proofs.Common.{length, ◌-◌}
use Rattle.mh_judge_log.proofs.PendingLemmas.{HasNoneBefore}
use Rattle.mh_judge_log.proofs.pending.place_of.Given as goal

abbrev pub invariant-loop-place : goal.invariant-loop-place
invariant-loop-place l = HasNoneBefore l.who l.place l.slots

abbrev pub decreases-loop-place : goal.decreases-loop-place
decreases-loop-place l = length l.slots - l.place
