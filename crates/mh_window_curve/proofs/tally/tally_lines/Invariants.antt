use Rattle.std.proofs.Common.{length}
use Rattle.mh_window_curve.proofs.TallyLemmas.{HasTallied}
use Rattle.mh_window_curve.proofs.tally.tally_lines.Given as goal

abbrev pub invariant-loop-tally : goal.invariant-loop-tally
invariant-loop-tally l = HasTallied l.fn.lines l.lines l.tally

abbrev pub decreases-loop-tally : goal.decreases-loop-tally
decreases-loop-tally l = length l.lines.lines
