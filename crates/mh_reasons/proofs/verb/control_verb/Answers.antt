use Rattle.std.proofs.Common.{refl, sym, ◌∙◌}
use Rattle.std.specs.Prelude.{codes}
use Rattle.mh_model.specs.Forms.{control_rows}
use Rattle.mh_reasons.proofs.OperandLemmas.{named, renamed}
use Rattle.mh_reasons.specs.declared.verb.Verb.{Verb}
use Rattle.mh_reasons.proofs.verb.control_verb.Goals as goal

pub returns-then-is_word : goal.returns-then-is_word
returns-then-is_word c = named (control_rows c.args.version) c.args.word.now Verb.Quantum (sym c.is_word.ensures ∙ c.if-is_word.true) refl

pub returns-then-is_word-2 : goal.returns-then-is_word-2
returns-then-is_word-2 c = named (control_rows c.args.version) c.args.word.now Verb.Start (sym c.is_word-else-is_word.ensures ∙ c.if-is_word-2.true) refl

pub returns-then-is_word-3 : goal.returns-then-is_word-3
returns-then-is_word-3 c = named (control_rows c.args.version) c.args.word.now Verb.Stat (sym c.is_word-else-is_word-2.ensures ∙ c.if-is_word-3.true) refl

pub returns-then-is_word-4 : goal.returns-then-is_word-4
returns-then-is_word-4 c = named (control_rows c.args.version) c.args.word.now Verb.Dump (sym c.is_word-else-is_word-3.ensures ∙ c.if-is_word-4.true) refl

pub returns-then-is_word-5 : goal.returns-then-is_word-5
returns-then-is_word-5 c = named (control_rows c.args.version) c.args.word.now Verb.Report (sym c.is_word-else-is_word-4.ensures ∙ c.if-is_word-5.true) refl

pub returns-then-is_word-6 : goal.returns-then-is_word-6
returns-then-is_word-6 c = renamed (control_rows c.args.version) c.args.word.now (codes "left") c.later_control.result (sym c.is_word-else-is_word-5.ensures ∙ c.if-is_word-6.true) c.later_control.ensures
