use Rattle.std.proofs.Common.{length}
use Rattle.mh_text.specs.Auxiliary.{text_shown}
use Rattle.mh_text.proofs.HalfLemmas.{Scanned}
use Rattle.mh_text.proofs.pieces.halves_of.Given as goal

abbrev pub invariant-loop-word : goal.invariant-loop-word
invariant-loop-word l = Scanned l.mark l.line l.rest (text_shown l.before)

abbrev pub decreases-loop-word : goal.decreases-loop-word
decreases-loop-word l = length l.rest
