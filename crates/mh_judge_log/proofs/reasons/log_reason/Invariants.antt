use Rattle.std.proofs.Common.{length}
use Rattle.mh_judge_log.proofs.ReasonLemmas.{HasPassed}
use Rattle.mh_judge_log.proofs.reasons.log_reason.Given as goal

abbrev pub invariant-loop-number : goal.invariant-loop-number
invariant-loop-number l = HasPassed l.text l.line l.in_order l.lines

abbrev pub decreases-loop-number : goal.decreases-loop-number
decreases-loop-number l = length l.lines.lines
