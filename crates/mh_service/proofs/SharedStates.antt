-- What the laws tell of the stored state under the lock, and of the call of a seat.
use Rattle.std.proofs.Common.{arith, ◌≡◌, ◌++◌, [], ◌∷◌, List, length, get_or, Some, map, All, Result, Ok, Err, MatchResult, IfOk, OnErr, IsErrOf, refl, ap, sym, ◌∙◌, subst}
use Rattle.std.proofs.lemmas.List.{length-append, map-append}
use Rattle.mh_lock.specs.Seats.{LockView, LockSeatView, IsKeptAtHome}
use Rattle.mh_model.specs.{declared.command.Event.Event, declared.config.Config.Config, declared.history.Entry.Entry}
use Rattle.mh_model.specs.declared.reply.Reply.{Reply}
use Rattle.mh_model.specs.{History.{IsLegal, AreLogs, owner_of, owned_by, events_of, replies_of}, Limits.most_entries}
use Rattle.mh_model.specs.{World.says, Machine.event_step}
use Rattle.mh_promise.specs.Replays.{EventsKeepTheReplay, IsReplay}
use Rattle.mh_seat_laws.specs.Laws.{LogsMergeToTheHistory}
use Rattle.mh_service.specs.{Services.{ServiceView, IsServed, AreMerged}, Auxiliary.IsReplayed}
use Rattle.mh_service.specs.Sharing.{IsReplayOf, IsDone, IsRefused}
use Rattle.mh_state.specs.Storing.{Stored, KeepsState, MayWantMemory, first_stored, with_entry}
use Rattle.mh_machine.specs.declared.machine.Stop.{Stop}

-- a state with the machine and the history of a replay is one too
pub kept-replayed : (found left : Stored) → IsReplayed found → KeepsState found left → IsReplayed left
kept-replayed found left is kept = record { replay = rw (kept.machine, kept.history) is.replay; legal = rw (kept.machine, kept.history) is.legal }

module _ (law : EventsKeepTheReplay) where
  pub first-replayed : (config : Config) → IsReplayed (first_stored config)
  unfolding most_entries
  first-replayed config = record { replay = law.first config; legal = record { few = omega arith; replies = (law.first config).replies_are } }

  -- an event that was done leaves a replay
  pub done-replayed : (found left : Stored) (event : Event) (given : Reply) → IsReplayed found → event_step found.machine event ≡ says given left.machine → left.history ≡ with_entry found.history event given
      → left.machine.heap.config ≡ found.machine.heap.config → IsLegal left.machine.heap.config left.history → IsReplayed left
  done-replayed found left event given is step entered same legal =
      let config : Config = found.machine.heap.config in
      let entry : Entry = record { event = event; reply = given } in
      let replay = law.step config (events_of found.history) (replies_of found.history) found.machine left.machine event given is.replay step in
      let events : events_of left.history ≡ events_of found.history ++ event ∷ [] = ap events_of entered ∙ map-append (λ e. e.event) found.history (entry ∷ []) in
      let replies : replies_of left.history ≡ replies_of found.history ++ given ∷ [] = ap replies_of entered ∙ map-append (λ e. e.reply) found.history (entry ∷ []) in record {
        replay = subst
            (λ c. IsReplay c (events_of left.history) (replies_of left.history) left.machine)
            (sym same)
            (subst
            (λ es. IsReplay config es (replies_of left.history) left.machine)
            (sym events)
            (subst (λ rs. IsReplay config (events_of found.history ++ event ∷ []) rs left.machine) (sym replies) replay));
        legal = legal;
      }

  -- an event that was answered or refused leaves one
  pub answered-replayed : (found left : Stored) (event : Event) (answer : Result Reply Stop) → IsReplayed found → MatchResult answer (λ reply. IsDone event found reply left) (λ reason. IsRefused event found reason left)
      → left.machine.heap.config ≡ found.machine.heap.config → IsLegal left.machine.heap.config left.history → IsReplayed left
  answered-replayed found left event (Ok given) is done same legal = done-replayed found left event given is done.step done.entered same legal
  answered-replayed found left event (Err reason) is refused same legal = kept-replayed found left is refused.unchanged

  pub replayed-of : (stored : Stored) → IsReplayed stored → IsReplayOf stored.machine.heap.config stored
  replayed-of stored is =
      let config : Config = stored.machine.heap.config in record {
        config_is = refl;
        legal = is.legal;
        replay = law.machines config (events_of stored.history) (replies_of stored.history) stored.machine is.replay;
        promise = law.promise config (events_of stored.history) (replies_of stored.history) stored.machine is.replay;
      }

-- what the state says of an event
pub answered : (found left : Stored) (event : Event) (answer : Result Reply Stop) → IfOk answer (λ given. event_step found.machine event ≡ says given left.machine) → IfOk answer (λ given. left.history ≡ with_entry found.history event given)
    → OnErr answer (KeepsState found left) → (IsErrOf answer Stop.HistoryFull → length found.history ≡ most_entries) → (length found.history ≡ most_entries → IsErrOf answer Stop.HistoryFull)
    → (IsErrOf answer Stop.NoMemory → MayWantMemory found event) → MatchResult answer (λ reply. IsDone event found reply left) (λ reason. IsRefused event found reason left)
answered found left event (Ok given) step entered stopped full ends memory = record { step = step; entered = entered }
answered found left event (Err reason) step entered stopped full ends memory = record {
  unchanged = stopped;
  full = (λ is. full (ap Err is), λ is. let told : Err reason ≡ Err Stop.HistoryFull = ends is in cc);
  memory = λ is. memory (ap Err is);
}

-- a full history is reported as full
full-refuses : (config : Config) (event : Event) (answer : Result Reply Stop) (found left : Stored) → IsLegal config left.history → MatchResult answer (λ reply. IsDone event found reply left) (λ reason. IsRefused event found reason left) → length found.history ≡ most_entries → IsErrOf answer Stop.HistoryFull
full-refuses config event (Ok reply) found left legal done full =
    let entry : Entry = record { event = event; reply = reply } in
    absurd (omega (arith, full, legal.few, ap length done.entered, length-append found.history (entry ∷ [])))
full-refuses config event (Err reason) found left legal done full = ap Err ((done.full).1 full)

-- what a call that took the lock says
pub call-served : (service : ServiceView) (before after : LockSeatView Entry) (event : Event) (answer : Result Reply Stop) (found left : Stored) → found.machine.heap.config ≡ service.config → left.machine.heap.config ≡ service.config
    → IsReplayOf found.machine.heap.config found → IsReplayOf left.machine.heap.config left → before.log ≡ owned_by (λ entry. owner_of entry.event) before.number found.history
    → after.log ≡ owned_by (λ entry. owner_of entry.event) after.number left.history → MatchResult answer (λ reply. IsDone event found reply left) (λ reason. IsRefused event found reason left)
    → IsServed service before after event answer
call-served service before after event answer found left config_found config_left replay_found replay_left log_found log_left done = record {
  found = found;
  left = left;
  replay_found = subst (λ config. IsReplayOf config found) config_found replay_found;
  replay_left = subst (λ config. IsReplayOf config left) config_left replay_left;
  log_found = log_found;
  log_left = log_left;
  done = done;
  ends = full-refuses left.machine.heap.config event answer found left replay_left.legal done;
}

map-same : {X : Type 0} (xs : List X) → map (λ x. x) xs ≡ xs
map-same [] = refl
map-same (x ∷ xs) = ap (λ (rest : List _). x ∷ rest) (map-same xs)

-- the logs of the seats that a lock was closed with merge to its history
pub closed-merged : LogsMergeToTheHistory → (lock : LockView Config) (seats : List (LockSeatView Entry)) (history : List Entry) → IsKeptAtHome (λ entry. owner_of entry.event) lock (map (λ seat. seat) seats) history → lock.seats ≡ 9 → AreMerged seats history
closed-merged law lock seats history kept nine =
    let found : Some kept.kept.history ≡ Some history = sym kept.kept.home ∙ kept.home in
    let same : kept.kept.history ≡ history = cc in record {
      logs = kept.state.logs;
      nine = kept.many ∙ nine;
      each = subst (All (λ (seat : LockSeatView Entry). get_or kept.state.logs seat.number [] ≡ seat.log)) (map-same seats) kept.logs;
      merge = law history kept.state.logs (kept.many ∙ nine) (subst (λ h. AreLogs (λ entry. owner_of entry.event) h kept.state.logs) same kept.kept.logs);
    }
