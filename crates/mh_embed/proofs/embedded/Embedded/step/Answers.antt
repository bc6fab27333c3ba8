use Rattle.std.proofs.Common.{rules, refl}
use Rattle.mh_embed.specs.Endings.{NoEvent, NotStepped, Stepped}
use Rattle.mh_embed.proofs.embedded.Embedded.step.Goals as goal

pub returns-in_default : goal.returns-in_default
returns-in_default c = NoEvent (search rules) refl refl

pub returns-in-Done : goal.returns-in-Done
returns-in-Done c = Stepped c.in-Some.event c.reply.result (search rules) c.in-Done.ensures c.reply.ensures

pub returns-in_default-event : goal.returns-in_default-event
returns-in_default-event c = NotStepped c.in-Some.event c.event.result (search rules) c.in_default-event.not-Done c.event.ensures refl
