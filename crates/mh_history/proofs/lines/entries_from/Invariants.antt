use Rattle.std.proofs.Common.{length}
use Rattle.mh_history.proofs.LineLemmas.{Walked}
use Rattle.mh_history.proofs.lines.entries_from.Given as goal

abbrev pub invariant-loop-entries : goal.invariant-loop-entries
invariant-loop-entries g l = Walked g.E.FromLine.of_line l.fn.lines l.lines l.entries.items

abbrev pub decreases-loop-entries : goal.decreases-loop-entries
decreases-loop-entries g l = length l.lines.lines
