use Rattle.std.proofs.Common.{length}
use Rattle.mh_reasons.proofs.HistoryLemmas.{Entered}
use Rattle.mh_reasons.proofs.history.history_reason.Given as goal

abbrev pub invariant-loop-number : goal.invariant-loop-number
invariant-loop-number l = Entered l.version l.fn.text l.line l.lines

abbrev pub decreases-loop-number : goal.decreases-loop-number
decreases-loop-number l = length l.lines.lines
