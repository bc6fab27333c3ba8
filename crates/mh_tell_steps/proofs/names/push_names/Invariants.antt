use Rattle.std.proofs.Common.{◌≡◌, ◌++◌, drop}
use Rattle.mh_tell_steps.specs.Names.{names_text}
use Rattle.mh_text.specs.Names.{names_shown}
use Rattle.mh_tell_steps.proofs.names.push_names.Given as goal

abbrev pub invariant-loop-number : goal.invariant-loop-number
invariant-loop-number l = l.text.items ++ names_text l.form l.number (names_shown (drop l.number l.names)) ≡ l.fn.text.items ++ names_text l.form 0 (names_shown l.names)
