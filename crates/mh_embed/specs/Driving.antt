-- What a program drives behind a handle, and what an event makes of it.
use Rattle.std.specs.Prelude.{◌≡◌, ◌<◌, ◌≤◌, ℕ, Option, None, List, [], ◌∷◌, ◌-◌, drop, length, take, if◌then◌else◌}
use Rattle.mh_model.specs.{declared.command.Command.Command, declared.command.Control.Control}
use Rattle.mh_model.specs.{declared.command.Event.Event, declared.config.Config.Config, declared.reply.Reply.Reply}
use Rattle.mh_model.specs.{Bytes.{Text, is_text}, Limits.most_events, World.{IsNew, never_full, refusal, sight_of}}
use Rattle.mh_machine.specs.Running.{MayAskForMemory}
use Rattle.mh_embed.specs.{declared.driver.Driver.Driver, declared.driver.Driver.TheVariants.{Collects, Grows}}
use Rattle.mh_embed.specs.{declared.status.Status.Status, Drivers.{Collected, Collecting, first_collected}}
use Rattle.mh_live.specs.Worlds.{Grown, Growing, first_grown}

-- a world is driven, which has no collector and no trace
abbrev pub IsOfWorld : Driver → Type 0
IsOfWorld (Collects collected) = ⊥
IsOfWorld (Grows grown) = Unit {0}

-- what is driven, the first names of sessions that were seen, and the reply to the last event, of none before the first
pub record Driven : Type 0 where
  pub driver : Driver
  pub names : List Text
  pub reply : Option Reply

-- before the first event, on the machine of a configuration, and on the world of one
abbrev pub first_driven : Config → Driven
first_driven config = record { driver = Collects (first_collected config); names = []; reply = None }

abbrev pub first_world_driven : Config → Driven
first_world_driven config = record { driver = Grows (first_grown config); names = []; reply = None }

-- Events -----------------------------------------------------------------------------------------

-- An event was done, and this is its reply
pub data Takes : Driver → Event → Reply → Driver → Type 0 where
  ByMachine : (old : Collected) (event : Event) (given : Reply) (new : Collected) → Collecting old event given new → Takes (Collects old) event given (Collects new)
  ByWorld : (old : Grown) (who : ℕ) (command : Command) (given : Reply) (new : Grown) → Growing old who command given new → Takes (Grows old) (Event.Session who command) given (Grows new)

-- Why an event is not done: the machine or the world has done as many as it may, memory was refused to an event that may ask for it or to a new object that nothing else refuses, or a world was asked for a control
pub data IsUndone : Driver → Event → Status → Type 0 where
  FullMachine : (old : Collected) (event : Event) → old.machine.done ≡ most_events → IsUndone (Collects old) event Status.Full
  FullWorld : (old : Grown) (who : ℕ) (command : Command) → most_events ≤ old.done → IsUndone (Grows old) (Event.Session who command) Status.Full
  Starved : (old : Collected) (event : Event) → old.machine.done < most_events → MayAskForMemory old.machine.room event → IsUndone (Collects old) event Status.NoMemory
  StarvedWorld : (old : Grown) (who : ℕ) (command : Command) → IsNew command → refusal (sight_of never_full old.world) who command ≡ None → IsUndone (Grows old) (Event.Session who command) Status.NoMemory
  NoCollector : (old : Grown) (control : Control) → IsUndone (Grows old) (Event.Control control) Status.IsWorld

-- Lines ------------------------------------------------------------------------------------------

-- a line without the newline that may end it
abbrev pub without_newline : Text → Text
without_newline line = if is_text (drop (length line - 1) line) (10 ∷ []) then take (length line - 1) line else line
