-- Histories that are legal, and legal for their sessions.
use Rattle.std.proofs.Common.{◌≡◌, ◌∙◌, inl, inr, ℕ, true, false, List, ◌∷◌, ◌++◌, ap, sym, refl, subst}
use Rattle.std.proofs.{lemmas.Bool.false≢true, lemmas.List.map-append}
use Rattle.mh_model.specs.{declared.command.Command.Command, declared.command.Event.Event}
use Rattle.mh_model.specs.{declared.config.Config.Config, declared.history.Entry.Entry}
use Rattle.mh_model.specs.{declared.reply.Refusal.TheVariants.HeapFull, declared.reply.Reply.Reply}
use Rattle.mh_model.specs.{History.{events_of, replies_of}, Sessions.{IsSeen, MayLackRoom, lacks_room}}
use Rattle.mh_model.specs.{Snapshot.{is_heap_full, world_beside}, World.{IsNew, World, first_world, world_step}}
use Rattle.mh_promise.specs.{Promise.{FullIsNoPlace, IsPromised, RunsKeepTheirPromise}, Runs.{IsAnswered, outcome_of}}
use Rattle.mh_run_laws.specs.{Replays.machine_at, Worlds.WorldIsNeverFull}
use Rattle.mh_judge_sessions.specs.Laws.{IsOfSession, LegalHistoriesAreLegalForSessions, OnlyTheRulesMatter, SessionsSeeTheWorld}
use Rattle.mh_judge_sessions.proofs.SeenLemmas.{beside_first, is_seen, lacks_full, reply_at, seen_at, seen_each, world_after}

-- Seen by the world ------------------------------------------------------------------------------

module _ (never : WorldIsNeverFull) (world : World) (who : ℕ) (command : Command) (given : Reply) where
  seen-other : IsSeen world (Event.Session who command) given → is_heap_full given ≡ false → given ≡ (world_step world who command).reply
  seen-other (inl is) other = is
  seen-other (inr lacks) other = absurd (false≢true (sym other ∙ lacks_full command given lacks.0))

  seen-full : IsSeen world (Event.Session who command) given → is_heap_full given ≡ true → MayLackRoom world who command given
  seen-full (inl is) full = absurd (false≢true (sym (never world who command) ∙ ap is_heap_full (sym is) ∙ full))
  seen-full (inr lacks) full = lacks

pub see_the_world : WorldIsNeverFull → SessionsSeeTheWorld
see_the_world never rules history legal = record {
  reply = λ config same before who command given is other. seen-other never (world_after (first_world config) before) who command given (at config same before who command given is) other;
  full = λ config same before who command given is full. seen-full never (world_after (first_world config) before) who command given (at config same before who command given is) full;
}
  where
    at : (config : Config) → config.rules ≡ rules → (before : List Entry) (who : ℕ) (command : Command) (given : Reply) → IsOfSession history before who command given → IsSeen (world_after (first_world config) before) (Event.Session who command) given
    at config same before who command given is =
        seen_at (first_world config) before (record { event = Event.Session who command; reply = given }) is.later (rw is.split at (legal.seen config same))

-- Seen in runs -----------------------------------------------------------------------------------

-- a full heap is one reply alone
full-is : (answer : Reply) → is_heap_full answer ≡ true → answer ≡ Reply.Refused HeapFull
full-is (Reply.Refused HeapFull) full = refl
full-is _ full = absurd (false≢true full)

new-lacks : (command : Command) (answer : Reply) → IsNew command → is_heap_full answer ≡ true → lacks_room command answer ≡ true
new-lacks (Command.New slot references numbers) answer new full = full
new-lacks _ answer new full = absurd new

-- by the promise a full heap answers what the world would make
made-full : (config : Config) (events : List Event) (replies : List Reply) → FullIsNoPlace config events replies → (before : List Event) (who : ℕ) (asked : Command) → IsAnswered events replies before (Event.Session who asked) (Reply.Refused HeapFull)
    → IsNew asked → (world_step (world_beside (first_world config) before replies) who asked).reply ≡ Reply.Done
made-full config events replies full before who (Command.New slot references numbers) at new = full.made before who slot references numbers at
made-full config events replies full before who _ at new = absurd new

module _ (config : Config) (history : List Entry) (promise : IsPromised config (events_of history) (outcome_of (machine_at config (events_of history)) (replies_of history))) where
  answered : (before : List Entry) (entry : Entry) (later : List Entry) → history ≡ before ++ entry ∷ later → IsAnswered (events_of history) (replies_of history) (events_of before) entry.event entry.reply
  answered before entry later is = record {
    later = events_of later;
    split = ap events_of is ∙ map-append (λ (e : Entry). e.event) before (entry ∷ later);
    given = rw is (reply_at before entry later);
  }

  seen-in-run : (before : List Entry) (entry : Entry) (later : List Entry) → history ≡ before ++ entry ∷ later → IsSeen (world_after (first_world config) before) entry.event entry.reply
  seen-in-run before entry later is =
      let given = answered before entry later is in
      let world : world_beside (first_world config) (events_of before) (replies_of history) ≡ world_after (first_world config) before = ap (λ (h : List Entry). world_beside (first_world config) (events_of before) (replies_of h)) is ∙ beside_first (first_world config) before (entry ∷ later) in
      is_seen (world_after (first_world config) before) entry.event entry.reply
      (λ who command same other. promise.replies (events_of before) who command entry.reply (rw same at given) other ∙ ap (λ (w : World). (world_step w who command).reply) world)
      (λ who command same full.
      let refused = rw (same, full-is entry.reply full) at given in
      let new = promise.full.new (events_of before) who command refused in
      (new-lacks command entry.reply new full, subst (λ (w : World). (world_step w who command).reply ≡ Reply.Done) world (made-full config (events_of history) (replies_of history) promise.full (events_of before) who command refused new)))

pub legal_for_sessions : RunsKeepTheirPromise → OnlyTheRulesMatter → LegalHistoriesAreLegalForSessions
legal_for_sessions keep alone config history legal =
    let promise = keep config (events_of history) (outcome_of (machine_at config (events_of history)) (replies_of history)) (record { replies = legal.replies; heap = refl; free = refl; trace = refl }) in
    record {
      few = legal.few;
      seen = λ other same. alone.history config other same history (seen_each (first_world config) history (seen-in-run config history promise));
    }
