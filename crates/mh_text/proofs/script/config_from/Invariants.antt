use Rattle.std.proofs.Common.{length}
use Rattle.mh_text.proofs.ScriptLemmas.{Blanks}
use Rattle.mh_text.proofs.script.config_from.Given as goal

abbrev pub invariant-loop-number : goal.invariant-loop-number
invariant-loop-number l = Blanks l.initial.lines l.lines

abbrev pub decreases-loop-number : goal.decreases-loop-number
decreases-loop-number l = length l.lines.lines
