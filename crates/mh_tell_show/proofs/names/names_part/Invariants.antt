use Rattle.std.proofs.Common.{◌≡◌, ◌++◌, codes, flat_map, take}
use Rattle.mh_tell_steps.specs.Lines.{quoted}
use Rattle.mh_text.specs.Names.{names_shown}
use Rattle.mh_tell_show.proofs.names.names_part.Given as goal

abbrev pub invariant-loop-name : goal.invariant-loop-name
invariant-loop-name l = l.text.items ≡ codes "{\"names\":[" ++ flat_map (λ name. quoted name ++ codes ",") (names_shown (take l.name-index l.names))
