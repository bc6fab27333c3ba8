-- The machine that runs, with the number of events that it has done and the room of its trace.
use Rattle.std.specs.Prelude.{◌≡◌, ◌≤◌, ◌<◌, ◌+◌, ◌*◌, ℕ, suc}
use Rattle.mh_model.specs.{declared.command.Event.Event, declared.config.Config.Config, declared.reply.Reply.Reply}
use Rattle.mh_model.specs.{World.says, Machine.{Machine, first_machine, event_step}, declared.command.Control.Control}
use Rattle.mh_run_laws.specs.Forgetting.{forgotten}

-- the machine, how many events it has done, and how many segments its trace has room for without asking for memory: more than it has, and in all
pub record Running : Type 0 where
  pub machine : Machine
  pub done : ℕ
  pub room : ℕ
  pub capacity : ℕ

-- the first machine, which has done none
abbrev pub first_running : Config → Running
first_running config = record { machine = first_machine config; done = 0; room = 0; capacity = 0 }

-- an event was done: its reply and what it leaves are the machine's, and it took the room of two segments at most, which it keeps
pub record Does (old : Running) (event : Event) (reply : Reply) (new : Running) : Type 0 where
  pub step : event_step old.machine event ≡ says reply new.machine
  pub done : new.done ≡ suc old.done
  pub room : old.room ≤ new.room + 2
  pub capacity : old.capacity ≤ new.capacity

-- its trace was forgotten: all the memory that it has is room
pub record Forgets (old new : Running) : Type 0 where
  pub machine : new.machine ≡ forgotten old.machine
  pub done : new.done ≡ old.done
  pub room : new.room ≡ old.capacity
  pub capacity : new.capacity ≡ old.capacity

-- there is room for the letters of so many events, and all else is as it was
pub record Reserves (events : ℕ) (old new : Running) : Type 0 where
  pub machine : new.machine ≡ old.machine
  pub done : new.done ≡ old.done
  pub room : events * 2 ≤ new.room
  pub capacity : events * 2 ≤ new.capacity

-- An event may ask for memory: a dump for its items, and a command or a quantum for the trace, where that has no room for both their units
abbrev pub MayAskForMemory : ℕ → Event → Type 0
MayAskForMemory room (Event.Session who command) = room < 2
MayAskForMemory room (Event.Control Control.Quantum) = room < 2
MayAskForMemory room (Event.Control Control.Dump) = Unit {0}
MayAskForMemory room (Event.Control _) = ⊥
