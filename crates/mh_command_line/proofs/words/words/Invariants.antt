use Rattle.std.proofs.Common.{map}
use Rattle.std.specs.String.{string_bytes}
use Rattle.mh_command_line.specs.Auxiliary.{AreRead}
use Rattle.mh_command_line.proofs.words.words.Given as goal

abbrev pub invariant-loop-index : goal.invariant-loop-index
invariant-loop-index g l = AreRead (g.A.Arguments.known l.arguments) l.index (map string_bytes l.words.items)
