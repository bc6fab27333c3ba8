use Rattle.std.proofs.Common.{◌≡◌, ◌++◌, drop}
use Rattle.std.specs.String.{string_bytes}
use Rattle.mh_tell_steps.specs.Lines.{paid_lines}
use Rattle.mh_tell_steps.proofs.lines.push_paid_lines.Given as goal

abbrev pub invariant-loop-deed : goal.invariant-loop-deed
invariant-loop-deed l = string_bytes l.text ++ paid_lines l.form l.number l.began l.quantum l.left (drop l.deed-index l.deeds) ≡ string_bytes l.fn.text ++ paid_lines l.form l.number l.began l.quantum l.quantum l.deeds
