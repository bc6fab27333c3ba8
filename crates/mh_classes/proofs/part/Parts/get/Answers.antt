use Rattle.std.proofs.Common.{◌-◌, slice_get, sym, ap, ◌∙◌, arith, length}
use Rattle.mh_model.specs.Classes.{parts}
use Rattle.mh_table_laws.proofs.objects.Parts.{length-parts, parts-few, middle_at}
use Rattle.mh_classes.proofs.PartLemmas.{arraylet_at}
use Rattle.mh_classes.proofs.part.Parts.get.Goals as goal

pub overflow_cast-after : goal.overflow_cast-after
overflow_cast-after c = omega (arith, c.requires, ap length c.self.view_is, parts-few c.self.inside.references c.self.inside.numbers c.self.invariant)

pub arraylet-requires-clause-run : goal.arraylet-requires-clause-run
arraylet-requires-clause-run c = omega (arith, c.requires, ap length c.self.view_is, length-parts c.self.inside.references c.self.inside.numbers c.if-fields-le-RUN.false)

pub returns-then-after-middles : goal.returns-then-after-middles
returns-then-after-middles c =
    rw (c.middle_spine.ensures, ← c.self.view_is)
    (sym (ap (slice_get (parts c.self.inside.references c.self.inside.numbers)) (omega arith) ∙ middle_at c.self.inside.references c.self.inside.numbers (c.args.index - 1) c.if-fields-le-RUN.false (omega arith)))

pub returns-else-after-middles : goal.returns-else-after-middles
returns-else-after-middles c =
    rw (c.arraylet.ensures, ← c.self.view_is)
    (sym (arraylet_at c.self.inside.references c.self.inside.numbers c.args.index (c.args.index - 1 - c.middle_count-middles.result) c.if-fields-le-RUN.false (omega (arith, c.requires, ap length c.self.view_is, length-parts c.self.inside.references c.self.inside.numbers c.if-fields-le-RUN.false)) (omega arith)))
