-- Auxiliary definitions: what loops, private functions and the insides of types keep. No public contract depends on them.
use Rattle.std.specs.Prelude.{◌≡◌, List, [], Option, Some, None, ℕ, ◌∷◌, ◌++◌, length, ◌<◌, ◌≤◌, take}
use Rattle.mh_model.specs.{declared.dump.DumpItem.DumpItem, declared.reply.Reply.Reply, declared.command.Event.Event}
use Rattle.mh_model.specs.{declared.config.Config.Config, declared.history.Entry.Entry}
use Rattle.mh_model.specs.{History.{IsLegal, events_of, replies_of}, Limits.most_entries}
use Rattle.mh_promise.specs.Replays.{IsReplay}
use Rattle.mh_machine.specs.{Running.{Running, Does}, declared.machine.Stop.Stop}
use Rattle.mh_machine.specs.declared.machine.Stop.TheVariants.{HistoryFull}

-- Copies of replies, of which only that of a dump takes memory.

-- a reply that is no dump
abbrev pub IsNoDump : Reply → Type 0
IsNoDump (Reply.Dump items) = ⊥
IsNoDump _ = Unit {0}

-- the dump that a reply is, if it is one
abbrev pub IsDumpOf : Reply → Option (List DumpItem) → Type 0
IsDumpOf given None = IsNoDump given
IsDumpOf given (Some items) = given ≡ Reply.Dump items

-- the history is that of the machine, and legal
pub record IsStored (running : Running) (history : List Entry) : Type 0 where
  pub replay : IsReplay running.machine.heap.config (events_of history) (replies_of history) running.machine
  pub legal : IsLegal running.machine.heap.config history
  pub count : length history ≡ running.done

-- an event was done, and its reply comes after the others
pub record GoesOn (old : Running) (before : List Reply) (event : Event) (new : Running) (after : List Reply) : Type 0 where
  pub reply : Reply
  pub does : Does old event reply new
  pub replies : after ≡ before ++ reply ∷ []

-- so many of the events were done, and these are their replies
pub record HasDone (config : Config) (events : List Event) (count : ℕ) (replies : List Reply) (running : Running) : Type 0 where
  pub replay : IsReplay config (take count events) replies running.machine
  pub done : running.done ≡ count
  pub answered : length replies ≡ count
  pub few : count ≤ most_entries

-- some of the events were done, and the one after them was refused: for the full history exactly if that was full
pub record IsStopped (config : Config) (events : List Event) (replies : List Reply) (running : Running) (stop : Stop) : Type 0 where
  pub count : ℕ
  pub has : HasDone config events count replies running
  pub left : count < length events
  pub full : stop ≡ HistoryFull → most_entries ≤ running.done
  pub ends : most_entries ≤ running.done → stop ≡ HistoryFull
