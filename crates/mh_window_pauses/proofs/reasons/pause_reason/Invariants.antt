use Rattle.std.proofs.Common.{length}
use Rattle.mh_window_pauses.proofs.ReasonLemmas.{Reached}
use Rattle.mh_window_pauses.proofs.reasons.pause_reason.Given as goal

abbrev pub invariant-loop-number : goal.invariant-loop-number
invariant-loop-number l = Reached l.text l.line l.begun l.lines

abbrev pub decreases-loop-number : goal.decreases-loop-number
decreases-loop-number l = length l.lines.lines
