-- Histories with an entry more.
use Rattle.std.proofs.Common.{◌≡◌, ◌≢◌, ◌≤◌, ℕ, List, [], ◌∷◌, ◌++◌, length, sym, ap, ◌∙◌, subst, arith}
use Rattle.std.proofs.lemmas.List.{length-append, map-append}
use Rattle.mh_model.specs.{History.{events_of, replies_of}, declared.command.Event.Event, declared.config.Config.Config}
use Rattle.mh_model.specs.{declared.history.Entry.Entry, declared.reply.Reply.Reply, Limits.most_entries}
use Rattle.mh_model.specs.Machine.{Machine, first_machine}
use Rattle.mh_laws.proofs.bounds.CyclesInTime.{run-stays}
use Rattle.mh_promise.specs.Replays.{EventsKeepTheReplay, IsReplay}
use Rattle.mh_machine.specs.Running.{Running, Does}
use Rattle.mh_state.specs.{Auxiliary.IsStored, Storing.{with_entry, IsTheReplay, KeepsItsPromise}}

-- the machine of a replay has its configuration
pub config-replay : (config : Config) (events : List Event) (replies : List Reply) (machine : Machine) → IsReplay config events replies machine → machine.heap.config ≡ config
config-replay config events replies machine is = ap (λ m. m.heap.config) is.machine_is ∙ (run-stays config events).config_is

stored-by : (config : Config) (running : Running) (history : List Entry) → IsReplay config (events_of history) (replies_of history) running.machine → length history ≤ most_entries → length history ≡ running.done → IsStored running history
stored-by config running history is few count =
    subst (λ c. IsReplay c (events_of history) (replies_of history) running.machine → IsStored running history) (config-replay config (events_of history) (replies_of history) running.machine is)
    (λ here. record { replay = here; legal = record { few = few; replies = here.replies_are }; count = count }) is

module _ (law : EventsKeepTheReplay) where
  pub first-stored : (config : Config) (running : Running) → running.machine ≡ first_machine config → running.done ≡ 0 → IsStored running []
  unfolding most_entries
  first-stored config running same none = stored-by config running [] (subst (IsReplay config [] []) (sym same) (law.first config)) (omega arith) (sym none)

  -- an event that is done and entered
  pub stored-on : (old new : Running) (history : List Entry) (event : Event) (given : Reply) → IsStored old history → length history ≢ most_entries → Does old event given new → IsStored new (with_entry history event given)
  stored-on old new history event given is more does =
      let entry : Entry = record { event = event; reply = given } in
      let replay = law.step old.machine.heap.config (events_of history) (replies_of history) old.machine new.machine event given is.replay does.step in
      let one = length-append history (entry ∷ []) in
      stored-by old.machine.heap.config new (with_entry history event given)
      (subst (λ es. IsReplay old.machine.heap.config es (replies_of (with_entry history event given)) new.machine) (sym (map-append (λ e. e.event) history (entry ∷ [])))
      (subst (λ rs. IsReplay old.machine.heap.config (events_of history ++ event ∷ []) rs new.machine) (sym (map-append (λ e. e.reply) history (entry ∷ []))) replay))
      (omega (arith, one, (is.legal).few, more)) (omega (arith, one, is.count, does.done))

  -- it keeps the configuration
  pub config-on : (old new : Running) (history : List Entry) (event : Event) (given : Reply) → IsStored old history → Does old event given new → new.machine.heap.config ≡ old.machine.heap.config
  config-on old new history event given is does =
      let replay = law.step old.machine.heap.config (events_of history) (replies_of history) old.machine new.machine event given is.replay does.step in
      config-replay old.machine.heap.config (events_of history ++ event ∷ []) (replies_of history ++ given ∷ []) new.machine replay

  pub replayed-stored : (running : Running) (history : List Entry) (room : ℕ) → IsStored running history → IsTheReplay (record { machine = running.machine; history = history; trace_room = running.room; entry_room = room })
  replayed-stored running history room is = law.machines running.machine.heap.config (events_of history) (replies_of history) running.machine is.replay

  pub promised-stored : (running : Running) (history : List Entry) (room : ℕ) → IsStored running history → KeepsItsPromise (record { machine = running.machine; history = history; trace_room = running.room; entry_room = room })
  promised-stored running history room is = law.promise running.machine.heap.config (events_of history) (replies_of history) running.machine is.replay
