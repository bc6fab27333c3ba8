-- What a machine that goes through its events one by one keeps of the promise.
use Rattle.std.specs.Prelude.{◌≡◌, List, [], ◌∷◌, ◌++◌}
use Rattle.mh_model.specs.{declared.command.Event.Event, declared.config.Config.Config, declared.reply.Reply.Reply}
use Rattle.mh_model.specs.{World.says, Machine.{Machine, first_machine, event_step, machine_replies}}
use Rattle.mh_run_laws.specs.Replays.{machine_at}
use Rattle.mh_promise.specs.{Runs.{outcome_of, IsTheMachines}, Promise.IsPromised}

-- a machine and its replies are those of a history of events
pub record IsReplay (config : Config) (events : List Event) (replies : List Reply) (machine : Machine) : Type 0 where
  pub machine_is : machine ≡ machine_at config events
  pub replies_are : replies ≡ machine_replies (first_machine config) events

-- An event's step appends the event and its reply to a replay, of which the first machine is that of no events. What a replay shows is the machine's
-- and keeps the promise
pub record EventsKeepTheReplay : Type 0 where
  pub first : (config : Config) → IsReplay config [] [] (first_machine config)
  pub step : (config : Config) (events : List Event) (replies : List Reply) (machine next : Machine) (event : Event) (given : Reply) → IsReplay config events replies machine → event_step machine event ≡ says given next → IsReplay config (events ++ event ∷ []) (replies ++ given ∷ []) next
  pub machines : (config : Config) (events : List Event) (replies : List Reply) (machine : Machine) → IsReplay config events replies machine → IsTheMachines config events (outcome_of machine replies)
  pub promise : (config : Config) (events : List Event) (replies : List Reply) (machine : Machine) → IsReplay config events replies machine → IsPromised config events (outcome_of machine replies)
