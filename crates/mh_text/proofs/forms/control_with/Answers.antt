use Rattle.std.proofs.Common.{sym, ◌∙◌, arith}
use Rattle.mh_text.proofs.FormLemmas.{plain_said, report_said}
use Rattle.mh_text.proofs.forms.control_with.Goals as goal

pub returns-in-empty : goal.returns-in-empty
returns-in-empty c = c.plain_control.ensures ∙ sym (plain_said c.args.version c.args.verb.now c.args.numbers.now (omega arith))

pub returns-in-len1 : goal.returns-in-len1
returns-in-len1 c = grind (arith, report_said)
