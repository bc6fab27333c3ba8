use Rattle.std.proofs.Common.{rules}
use Rattle.mh_embed.specs.Driving.{ByWorld, FullWorld, NoCollector, StarvedWorld}
use Rattle.mh_embed.proofs.driver.world_event.Goals as goal

pub returns-in_default-clause-undone : goal.returns-in_default-clause-undone
returns-in_default-clause-undone c = rw c.in_default.is (NoCollector c.args.world.now c.in_default.field-0)

pub returns-in-Ok-clause-done : goal.returns-in-Ok-clause-done
returns-in-Ok-clause-done c = rw c.in-Session.is (ByWorld c.args.world.now c.in-Session.who c.in-Session.command c.in-Ok.reply c.command.new.self c.in-Ok.ensures.done)

pub returns-in-Err-HistoryFull-clause-undone : goal.returns-in-Err-HistoryFull-clause-undone
returns-in-Err-HistoryFull-clause-undone c =
    rw c.in-Session.is (FullWorld c.args.world.now c.in-Session.who c.in-Session.command (search rules))

pub returns-in-Err-NoMemory-clause-undone : goal.returns-in-Err-NoMemory-clause-undone
returns-in-Err-NoMemory-clause-undone c =
    rw c.in-Session.is (StarvedWorld c.args.world.now c.in-Session.who c.in-Session.command (search rules) (search rules))
