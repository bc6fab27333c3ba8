use Rattle.std.proofs.Common.{rules}
use Rattle.mh_embed.specs.Driving.{ByMachine, FullMachine, Starved}
use Rattle.mh_embed.proofs.driver.machine_event.Goals as goal

pub returns-in-Ok-clause-done : goal.returns-in-Ok-clause-done
returns-in-Ok-clause-done c = ByMachine c.args.machine.now c.args.event c.in-Ok.reply c.event.new.self c.in-Ok.ensures.done

pub returns-in-Err-HistoryFull-clause-undone : goal.returns-in-Err-HistoryFull-clause-undone
returns-in-Err-HistoryFull-clause-undone c = FullMachine c.args.machine.now c.args.event (search rules)

pub returns-in-Err-NoMemory-clause-undone : goal.returns-in-Err-NoMemory-clause-undone
returns-in-Err-NoMemory-clause-undone c = Starved c.args.machine.now c.args.event (search rules) (search rules)
