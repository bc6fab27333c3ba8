use Rattle.std.proofs.Common.{length}
use Rattle.mh_judge_log.proofs.LogLemmas.{HasLogged}
use Rattle.mh_judge_log.proofs.log.read_log.Given as goal

abbrev pub invariant-loop-slots : goal.invariant-loop-slots
invariant-loop-slots l = HasLogged l.initial.lines l.lines l.slots.items

abbrev pub decreases-loop-slots : goal.decreases-loop-slots
decreases-loop-slots l = length l.lines.lines
