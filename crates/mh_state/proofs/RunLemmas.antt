-- Runs that go on event by event.
use Rattle.std.proofs.Common.{◌≡◌, ◌<◌, ◌≤◌, ℕ, ◌+◌, Vec, Global, List, [], ◌∷◌, ◌++◌, length, take, drop, get_or, sym, ap, ◌∙◌, subst, arith}
use Rattle.std.proofs.lemmas.List.{length-append, take_more, take_all, take-append-drop}
use Rattle.std.specs.Vec.{vec_len}
use Rattle.mh_model.specs.{declared.command.Event.Event, declared.config.Config.Config, declared.reply.Reply.Reply}
use Rattle.mh_model.specs.Limits.{most_entries}
use Rattle.mh_promise.specs.{Runs.AreAnsweredSoFar, Replays.{EventsKeepTheReplay, IsReplay}}
use Rattle.mh_machine.specs.{Running.{Running, first_running}, declared.machine.Stop.Stop}
use Rattle.mh_machine.specs.declared.machine.Stop.TheVariants.{HistoryFull}
use Rattle.mh_state.specs.Auxiliary.{GoesOn, HasDone, IsStopped}

module _ (law : EventsKeepTheReplay) (config : Config) (events : List Event) where
  pub none-done : (replies : List Reply) (running : Running) → replies ≡ [] → running ≡ first_running config → HasDone config events 0 replies running
  unfolding most_entries
  none-done replies running none first = record {
    replay = subst (λ rs. IsReplay config [] rs running.machine) (sym none) (subst (IsReplay config [] []) (sym (ap (λ r. r.machine) first)) (law.first config));
    done = ap (λ r. r.done) first;
    answered = ap length none;
    few = omega arith;
  }

  pub one-done : (count : ℕ) (before after : List Reply) (old new : Running) (event default : Event) → count < length events → event ≡ get_or events count default → (most_entries ≤ old.done → ⊥)
      → HasDone config events count before old → GoesOn old before event new after → HasDone config events (count + 1) after new
  one-done count before after old new event default there is more has goes =
      let next : take (count + 1) events ≡ take count events ++ event ∷ [] = take_more events count default there ∙ ap (λ e. take count events ++ e ∷ []) (sym is) in
      record {
        replay = subst (λ es. IsReplay config es after new.machine) (sym next) (subst (λ rs. IsReplay config (take count events ++ event ∷ []) rs new.machine) (sym goes.replies) (law.step config (take count events) before old.machine new.machine event goes.reply has.replay (goes.does).step));
        done = omega (arith, has.done, (goes.does).done);
        answered = ap length goes.replies ∙ length-append before (goes.reply ∷ []) ∙ ap (λ n. n + 1) has.answered;
        few = omega (arith, has.few, has.done, more);
      }

-- the first of the events were answered
pub answered-so-far : (config : Config) (events : List Event) (count : ℕ) (replies : List Reply) (running : Running) → HasDone config events count replies running → AreAnsweredSoFar config events replies
answered-so-far config events count replies running has = record { done = take count events; left = drop count events; split = sym (take-append-drop count events); machines = (has.replay).replies_are }

-- all of them were done
pub all-done : (config : Config) (events : List Event) (count : ℕ) (replies : List Reply) (running : Running) → length events ≤ count → HasDone config events count replies running → IsReplay config events replies running.machine
all-done config events count replies running all has = subst (λ es. IsReplay config es replies running.machine) (take_all count events all) has.replay

-- the event after those that were done was refused
pub stopped-at : (config : Config) (events : List Event) (count : ℕ) (replies after : List Reply) (old new : Running) (stop : Stop) → count < length events → new ≡ old → after ≡ replies
    → (stop ≡ HistoryFull → most_entries ≤ old.done) → (most_entries ≤ old.done → stop ≡ HistoryFull) → HasDone config events count replies old → IsStopped config events after new stop
stopped-at config events count replies after old new stop left same kept full ends has = rw (same, kept) (record { count = count; has = has; left = left; full = full; ends = ends })

-- for a run that stopped
module _ (config : Config) (events : List Event) (replies : Vec Reply Global) (running : Running) (stop : Stop) (stopped : IsStopped config events replies.items running stop) where
  pub stopped-so-far : AreAnsweredSoFar config events replies.items
  stopped-so-far = answered-so-far config events stopped.count replies.items running stopped.has

  pub stopped-full : stop ≡ HistoryFull → vec_len replies ≡ most_entries
  stopped-full is = let has = stopped.has in omega (arith, replies.ok.0, has.answered, has.done, has.few, stopped.full is)

  pub stopped-more : stop ≡ HistoryFull → most_entries < length events
  stopped-more is = let has = stopped.has in omega (arith, has.done, stopped.full is, stopped.left)

  pub stopped-ends : vec_len replies ≡ most_entries → stop ≡ HistoryFull
  stopped-ends is = let has = stopped.has in stopped.ends (omega (arith, replies.ok.0, has.answered, has.done, is))

  pub stopped-left : vec_len replies < length events
  stopped-left = let has = stopped.has in omega (arith, replies.ok.0, has.answered, stopped.left)
