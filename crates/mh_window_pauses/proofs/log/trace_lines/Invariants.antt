use Rattle.std.proofs.Common.{length}
use Rattle.mh_window_pauses.proofs.LogLemmas.{HasTraced}
use Rattle.mh_window_pauses.proofs.log.trace_lines.Given as goal

abbrev pub invariant-loop-traced : goal.invariant-loop-traced
invariant-loop-traced l = HasTraced l.fn.lines l.lines l.traced

abbrev pub decreases-loop-traced : goal.decreases-loop-traced
decreases-loop-traced l = length l.lines.lines
