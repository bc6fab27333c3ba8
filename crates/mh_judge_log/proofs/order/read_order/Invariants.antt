use Rattle.std.proofs.Common.{length}
use Rattle.mh_judge_log.proofs.OrderLemmas.{HasTaken}
use Rattle.mh_judge_log.proofs.order.read_order.Given as goal

abbrev pub invariant-loop-order : goal.invariant-loop-order
invariant-loop-order l = HasTaken l.fn.left l.fn.lines l.left l.lines l.order.items

abbrev pub decreases-loop-order : goal.decreases-loop-order
decreases-loop-order l = length l.lines.lines
