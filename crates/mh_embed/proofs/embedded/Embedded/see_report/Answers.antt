use Rattle.std.proofs.Common.{refl}
use Rattle.mh_embed.specs.Endings.{NotReported, Reported}
use Rattle.mh_embed.proofs.EndingLemmas.{is_world}
use Rattle.mh_embed.proofs.embedded.Embedded.see_report.Goals as goal

pub returns-in_default-clause-ends : goal.returns-in_default-clause-ends
returns-in_default-clause-ends c = rw (← c.self.view_is) (NotReported (is_world c.self.inside.driver c.in_default.field-0 c.in_default.is) refl)

pub returns-clause-ends : goal.returns-clause-ends
returns-clause-ends c = rw (← c.self.view_is) (Reported c.in-Collects.machine c.report.result c.in-Collects.is c.report.ensures.report c.report.ensures.promise c.reply_numbers.ensures)
