use Rattle.std.proofs.Common.{length}
use Rattle.mh_text.proofs.ScriptLemmas.{Walks}
use Rattle.mh_text.proofs.script.events_from.Given as goal

abbrev pub invariant-loop-taken : goal.invariant-loop-taken
invariant-loop-taken l = Walks l.initial.lines l.lines l.names l.events.items

abbrev pub decreases-loop-taken : goal.decreases-loop-taken
decreases-loop-taken l = length l.lines.lines
