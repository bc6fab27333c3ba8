-- The machine that is stored with the history of what it did.
use Rattle.std.specs.Prelude.{◌≡◌, ◌⊎◌, ℕ, List, [], ◌∷◌, ◌++◌}
use Rattle.mh_model.specs.{declared.command.Event.Event, declared.config.Config.Config, declared.history.Entry.Entry}
use Rattle.mh_model.specs.{declared.reply.Reply.Reply, History.{events_of, replies_of}}
use Rattle.mh_model.specs.Machine.{Machine, first_machine}
use Rattle.mh_promise.specs.{Runs.{outcome_of, IsTheMachines}, Promise.IsPromised}
use Rattle.mh_machine.specs.Running.{MayAskForMemory}

-- The machine, and each event that it did with its reply, in order; how many segments the trace and how many entries the history have room for without asking for memory
pub record Stored : Type 0 where
  pub machine : Machine
  pub history : List Entry
  pub trace_room : ℕ
  pub entry_room : ℕ

-- the first machine, which did none
abbrev pub first_stored : Config → Stored
first_stored config = record { machine = first_machine config; history = []; trace_room = 0; entry_room = 0 }

-- machine and history are the same; room is no part of the state
pub record KeepsState (old new : Stored) : Type 0 where
  pub machine : new.machine ≡ old.machine
  pub history : new.history ≡ old.history

-- an event may ask for memory: for itself, or for its entry if the history has no room for one
abbrev pub MayWantMemory : Stored → Event → Type 0
MayWantMemory stored event = MayAskForMemory stored.trace_room event ⊎ (stored.entry_room ≡ 0)

-- a history with an event more and its reply
abbrev pub with_entry : List Entry → Event → Reply → List Entry
with_entry history event reply = history ++ record { event = event; reply = reply } ∷ []

-- the machine is that after the events of its history, and the replies are the machine's
abbrev pub IsTheReplay : Stored → Type 0
IsTheReplay stored = IsTheMachines stored.machine.heap.config (events_of stored.history) (outcome_of stored.machine (replies_of stored.history))

-- the replies of the history are the machine's and keep the promise
abbrev pub KeepsItsPromise : Stored → Type 0
KeepsItsPromise stored = IsPromised stored.machine.heap.config (events_of stored.history) (outcome_of stored.machine (replies_of stored.history))
