use Rattle.std.proofs.Common.{◌≡◌, length, map}
use Rattle.mh_model.specs.Script.{line_of}
use Rattle.mh_text.specs.Names.{names_from, names_in}
use Rattle.mh_text.proofs.names.names_in.Given as goal

abbrev pub invariant-loop-line : goal.invariant-loop-line
invariant-loop-line l = names_from l.names (map line_of l.lines.lines) ≡ names_in l.text

abbrev pub decreases-loop-line : goal.decreases-loop-line
decreases-loop-line l = length l.lines.lines
