-- Auxiliary definitions: what loops, private functions and the insides of types keep. No public contract depends on them.
use Rattle.mh_model.specs.History.{IsLegal, events_of, replies_of}
use Rattle.mh_promise.specs.Replays.{IsReplay}
use Rattle.mh_state.specs.Storing.{Stored}

-- the machine is that of its history, which is legal
pub record IsReplayed (stored : Stored) : Type 0 where
  pub replay : IsReplay stored.machine.heap.config (events_of stored.history) (replies_of stored.history) stored.machine
  pub legal : IsLegal stored.machine.heap.config stored.history
