use Rattle.std.proofs.Common.{refl}
use Rattle.mh_embed.specs.Endings.{Answered, Undone}
use Rattle.mh_embed.proofs.embedded.Embedded.answer.Goals as goal

pub returns-in-Done : goal.returns-in-Done
returns-in-Done c = rw (c.text.ensures.kept, ← c.without_newline.ensures) (Answered c.text.result c.in-Done.ensures c.text.ensures.ends)

pub returns-in_default : goal.returns-in_default
returns-in_default c = rw (← c.without_newline.ensures) (Undone c.line.result c.in_default.not-Done c.line.ensures refl refl)
