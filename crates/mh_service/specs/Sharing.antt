-- The stored state under the lock of a service, and what an event does to it.
use Rattle.std.specs.Prelude.{◌≡◌, ◌↔◌, length}
use Rattle.mh_model.specs.{declared.command.Event.Event, declared.config.Config.Config, declared.reply.Reply.Reply}
use Rattle.mh_model.specs.{History.IsLegal, Limits.most_entries, Machine.event_step, World.says}
use Rattle.mh_state.specs.Storing.{Stored, KeepsState, MayWantMemory, with_entry, IsTheReplay, KeepsItsPromise}
use Rattle.mh_machine.specs.declared.machine.Stop.{Stop}

-- A stored state is the replay of its history under a configuration, and that history is legal and keeps the promise
pub record IsReplayOf (config : Config) (stored : Stored) : Type 0 where
  pub config_is : stored.machine.heap.config ≡ config
  pub legal : IsLegal config stored.history
  pub replay : IsTheReplay stored
  pub promise : KeepsItsPromise stored

-- An event was done: the machine took its step, and the event is entered with the reply of that step
pub record IsDone (event : Event) (found : Stored) (given : Reply) (left : Stored) : Type 0 where
  pub step : event_step found.machine event ≡ says given left.machine
  pub entered : left.history ≡ with_entry found.history event given

-- An event was refused: the state is unchanged; a full history is the reason just when it is full, and refused memory only if the event may ask for memory
pub record IsRefused (event : Event) (found : Stored) (reason : Stop) (left : Stored) : Type 0 where
  pub unchanged : KeepsState found left
  pub full : (reason ≡ Stop.HistoryFull) ↔ (length found.history ≡ most_entries)
  pub memory : reason ≡ Stop.NoMemory → MayWantMemory found event
