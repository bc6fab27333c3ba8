use Rattle.std.proofs.Common.{sym}
use Rattle.mh_table_laws.proofs.objects.Parts.{length-parts}
use Rattle.mh_classes.proofs.part.Parts.count.Goals as goal

pub returns-else-fields-le-RUN-clause-count : goal.returns-else-fields-le-RUN-clause-count
returns-else-fields-le-RUN-clause-count c = rw (c.middle_count.ensures, c.run_count.ensures, ← c.self.view_is) (sym (length-parts c.self.inside.references c.self.inside.numbers c.if-fields-le-RUN.false))
