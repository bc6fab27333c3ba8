-- A run that is never full is answered as a heap that never fills.
use Rattle.std.specs.Prelude.{List}
use Rattle.mh_model.specs.{declared.command.Event.Event, declared.config.Config.Config, World.first_world}
use Rattle.mh_model.specs.{Machine.{first_machine, machine_replies}, Intervals.{IsNeverFull, AnswerAsTheWorld}}

-- In a run that is never full each reply to a session is the ever-growing world's, which is given all commands of the run
abbrev pub NeverFullIsTheWorld : Type 0
NeverFullIsTheWorld = (config : Config) (events : List Event) → IsNeverFull config events → AnswerAsTheWorld (first_world config) events (machine_replies (first_machine config) events)
