use Rattle.std.proofs.Common.{length}
use Rattle.mh_reasons.proofs.ReadLemmas.{Reached}
use Rattle.mh_reasons.proofs.script.script_reason.Given as goal

abbrev pub invariant-loop-number : goal.invariant-loop-number
invariant-loop-number l = Reached l.fn.text l.line l.configured l.lines

abbrev pub decreases-loop-number : goal.decreases-loop-number
decreases-loop-number l = length l.lines.lines
