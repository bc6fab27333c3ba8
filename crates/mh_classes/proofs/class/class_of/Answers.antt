use Rattle.std.proofs.Common.{◌∙◌, sym}
use Rattle.mh_table_laws.proofs.tables.PageSlots.{class_of-class_size}
use Rattle.mh_classes.proofs.ClassLemmas.{no_class, some_class}
use Rattle.mh_classes.proofs.class.class_of.Goals as goal

pub returns-then-size-eq0 : goal.returns-then-size-eq0
returns-then-size-eq0 c = no_class c.args.words (sym c.size_for-size.ensures ∙ c.if-size-eq0.true)

pub invariant_of-result : goal.invariant_of-result
invariant_of-result c = rw c.size_for-size.ensures (class_of-class_size c.args.words _ (sym (some_class c.args.words (λ e. c.if-size-eq0.false (c.size_for-size.ensures ∙ e)))))

pub returns : goal.returns
returns c = rw c.size_for-size.ensures (some_class c.args.words (λ e. c.if-size-eq0.false (c.size_for-size.ensures ∙ e)))
