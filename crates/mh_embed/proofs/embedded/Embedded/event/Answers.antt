use Rattle.std.proofs.Common.{rules}
use Rattle.mh_embed.specs.Endings.{Done, Undone}
use Rattle.mh_embed.proofs.embedded.Embedded.event.Goals as goal

pub returns-in-Ok : goal.returns-in-Ok
returns-in-Ok c = Done c.in-Ok.reply (search rules) (search rules) (search rules)

pub returns-in-Err : goal.returns-in-Err
returns-in-Err c = Undone _ (search rules) (search rules)
