use Rattle.std.proofs.Common.{arith}
use Rattle.mh_text.proofs.FormLemmas.{command_none}
use Rattle.mh_text.proofs.forms.command_of.Goals as goal

pub returns-in_err-numbers : goal.returns-in_err-numbers
returns-in_err-numbers c = grind (arith, command_none)
