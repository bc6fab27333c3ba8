use Rattle.std.proofs.Common.{refl, sym, ◌∙◌}
use Rattle.mh_model.specs.Forms.{command_rows}
use Rattle.mh_reasons.proofs.OperandLemmas.{named}
use Rattle.mh_reasons.specs.declared.verb.Verb.{Verb}
use Rattle.mh_reasons.proofs.verb.command_verb.Goals as goal

pub returns-then-is_word : goal.returns-then-is_word
returns-then-is_word c = named command_rows c.args.word.now Verb.New (sym c.is_word.ensures ∙ c.if-is_word.true) refl

pub returns-then-is_word-2 : goal.returns-then-is_word-2
returns-then-is_word-2 c = named command_rows c.args.word.now Verb.Get (sym c.is_word-else-is_word.ensures ∙ c.if-is_word-2.true) refl

pub returns-then-is_word-3 : goal.returns-then-is_word-3
returns-then-is_word-3 c = named command_rows c.args.word.now Verb.Put (sym c.is_word-else-is_word-2.ensures ∙ c.if-is_word-3.true) refl

pub returns-then-is_word-4 : goal.returns-then-is_word-4
returns-then-is_word-4 c = named command_rows c.args.word.now Verb.Copy (sym c.is_word-else-is_word-3.ensures ∙ c.if-is_word-4.true) refl

pub returns-then-is_word-5 : goal.returns-then-is_word-5
returns-then-is_word-5 c = named command_rows c.args.word.now Verb.Clear (sym c.is_word-else-is_word-4.ensures ∙ c.if-is_word-5.true) refl

pub returns-then-is_word-6 : goal.returns-then-is_word-6
returns-then-is_word-6 c = named command_rows c.args.word.now Verb.Read (sym c.is_word-else-is_word-5.ensures ∙ c.if-is_word-6.true) refl

pub returns-then-is_word-7 : goal.returns-then-is_word-7
returns-then-is_word-7 c = named command_rows c.args.word.now Verb.Write (sym c.is_word-else-is_word-6.ensures ∙ c.if-is_word-7.true) refl

pub returns-then-is_word-8 : goal.returns-then-is_word-8
returns-then-is_word-8 c = named command_rows c.args.word.now Verb.Same (sym c.is_word-else-is_word-7.ensures ∙ c.if-is_word-8.true) refl

pub returns-then-is_word-9 : goal.returns-then-is_word-9
returns-then-is_word-9 c = named command_rows c.args.word.now Verb.Shape (sym c.is_word-else-is_word-8.ensures ∙ c.if-is_word-9.true) refl

pub returns-then-is_word-10 : goal.returns-then-is_word-10
returns-then-is_word-10 c = named command_rows c.args.word.now Verb.Post (sym c.is_word-else-is_word-9.ensures ∙ c.if-is_word-10.true) refl

pub returns-then-is_word-11 : goal.returns-then-is_word-11
returns-then-is_word-11 c = named command_rows c.args.word.now Verb.Take (sym c.is_word-else-is_word-10.ensures ∙ c.if-is_word-11.true) refl

pub returns-then-is_word-12 : goal.returns-then-is_word-12
returns-then-is_word-12 c = named command_rows c.args.word.now Verb.End (sym c.is_word-else-is_word-11.ensures ∙ c.if-is_word-12.true) refl
