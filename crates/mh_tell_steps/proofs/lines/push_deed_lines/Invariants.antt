use Rattle.std.proofs.Common.{◌≡◌, ◌++◌, flat_map, take}
use Rattle.std.specs.String.{string_bytes}
use Rattle.mh_tell_steps.specs.Lines.{deed_line}
use Rattle.mh_tell_steps.proofs.lines.push_deed_lines.Given as goal

abbrev pub invariant-loop-deed : goal.invariant-loop-deed
invariant-loop-deed l = string_bytes l.text ≡ string_bytes l.fn.text ++ flat_map (deed_line l.form l.number) (take l.deed-index l.deeds)
