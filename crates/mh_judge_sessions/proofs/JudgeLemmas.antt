-- A judge of what sessions see follows a history entry by entry.
use Rattle.std.proofs.Common.{◌≡◌, ◌≢◌, ◌∙◌, ◌↔◌, ◌⊎◌, inl, inr, ℕ, ◌+◌, Bool, true, false, IsTrue, Option, Some, None, is_some, not, List, [], ◌∷◌, ◌++◌, length, ap, sym, refl, subst, arith}
use Rattle.std.proofs.{lemmas.Bool.false≢true, lemmas.List.length_push}
use Rattle.mh_model.specs.{declared.command.Command.Command, declared.command.Event.Event}
use Rattle.mh_model.specs.{declared.config.Config.Config, declared.config.Rules.Rules, declared.history.Entry.Entry}
use Rattle.mh_model.specs.{declared.reply.Refusal.Refusal, declared.reply.Reply.Reply, Limits.most_entries}
use Rattle.mh_model.specs.Sessions.{IsLegalForSessions, IsSeen, MayLackRoom, lacks_room}
use Rattle.mh_model.specs.Snapshot.{is_heap_full, world_beside_event}
use Rattle.mh_model.specs.World.{Answer, IsNew, Performs, World, effect, first_world, heap_step, never_full, refusal, sight_of, unless_refused, world_step}
use Rattle.mh_run_laws.proofs.worlds.FullHeaps.{world_step-never_full}
use Rattle.mh_judge_sessions.specs.{Watching.{HasFollowed, MakesObject}, Auxiliary.IsFollowed}
use Rattle.mh_judge_sessions.proofs.RulesLemmas.{beside-config, rules_alone}
use Rattle.mh_judge_sessions.proofs.SeenLemmas.{after_more, lacks_full, seen_at, seen_more, world_after}

-- One entry --------------------------------------------------------------------------------------

-- a session's command was performed, and its reply is that of the entry
pub followed : (old new : World) (entry : Entry) (who : ℕ) (command : Command) (given : Reply) → entry.event ≡ Event.Session who command → Performs never_full old who command given new → entry.reply ≡ given → IsFollowed old entry new true
followed old new entry who command given is performs same =
    subst (λ (asked : Event). IsFollowed old (record { event = asked; reply = entry.reply }) new true) (sym is) (
      inl (same ∙ sym (ap (λ (after : Answer World). after.reply) performs)),
      rw other (sym (ap (λ (after : Answer World). after.state) performs)),
    )
  where
    other : is_heap_full entry.reply ≡ false
    other = ap is_heap_full (same ∙ sym (ap (λ (after : Answer World). after.reply) performs)) ∙ world_step-never_full old who command

-- a new object that may be answered by a full heap: nothing is made
pub followed_full : (world : World) (entry : Entry) (who : ℕ) (command : Command) → entry.event ≡ Event.Session who command → MayLackRoom world who command entry.reply → IsFollowed world entry world true
followed_full world entry who command is may =
    subst (λ (asked : Event). IsFollowed world (record { event = asked; reply = entry.reply }) world true) (sym is) (inr may, rw (lacks_full command entry.reply may.0) refl)

-- what the world would answer to a new object that is refused so, or is made
pub answers_new : (refused : Option Refusal) (made : Bool) (world : World) (who slot references numbers : ℕ) → is_some refused ≡ not made → refused ≡ refusal (sight_of never_full world) who (Command.New slot references numbers)
    → IsTrue made ↔ ((world_step world who (Command.New slot references numbers)).reply ≡ Reply.Done)
unfolding heap_step
answers_new refused made world who slot references numbers unless is =
    let asked = Command.New slot references numbers in
    subst (λ (found : Option Refusal). IsTrue made ↔ ((unless_refused found world (effect world who asked)).reply ≡ Reply.Done)) is (by refused made unless)
  where
    by : (found : Option Refusal) (made : Bool) → is_some found ≡ not made → IsTrue made ↔ ((unless_refused found world (effect world who (Command.New slot references numbers))).reply ≡ Reply.Done)
    by None true unless = (λ _. refl, λ _. refl)
    by None false unless = absurd (false≢true unless)
    by (Some other) true unless = absurd (false≢true (sym unless))
    by (Some other) false unless = (λ is. absurd (false≢true is), λ is. cc)

-- what nothing refuses the world makes
made_new : (world : World) (who : ℕ) (command : Command) → IsNew command → refusal (sight_of never_full world) who command ≡ None → (world_step world who command).reply ≡ Reply.Done
unfolding heap_step
made_new world who (Command.New slot references numbers) new none =
    let asked = Command.New slot references numbers in
    subst (λ (found : Option Refusal). (unless_refused found world (effect world who asked)).reply ≡ Reply.Done) (sym none) refl
made_new world who other new none = absurd new

-- memory is refused for an object that the world makes, and for which the reply says that there was room
pub makes_object : (world : World) (entry : Entry) (who : ℕ) (command : Command) → entry.event ≡ Event.Session who command → IsNew command → refusal (sight_of never_full world) who command ≡ None → ¬ MayLackRoom world who command entry.reply
    → MakesObject entry.event entry.reply
makes_object world entry who command is new none lacks = subst (λ (asked : Event). MakesObject asked entry.reply) (sym is) (new, by (lacks_room command entry.reply) refl) where
  by : (b : Bool) → lacks_room command entry.reply ≡ b → lacks_room command entry.reply ≡ false
  by true room = absurd (lacks (room, made_new world who command new none))
  by false room = room

-- Histories --------------------------------------------------------------------------------------

module _ (rules : Rules) (seen : List Entry) (entry : Entry) (old new : World) (count : ℕ) (has : HasFollowed rules seen old count) where
  longer : length (seen ++ entry ∷ []) ≡ count + 1
  longer = omega (arith, has.count, length_push seen entry)

  -- one that is right
  pub followed_more : count ≢ most_entries → IsFollowed old entry new true → HasFollowed rules (seen ++ entry ∷ []) new (count + 1)
  followed_more other is =
      let config = old.config in
      let kept : new.config ≡ config = ap (λ (world : World). world.config) is.1 ∙ beside-config old entry.event entry.reply in
      let after : new ≡ world_after (first_world config) (seen ++ entry ∷ []) =
      is.1 ∙ ap (λ (world : World). world_beside_event world entry.event entry.reply) has.beside ∙ sym (after_more (first_world config) seen entry) in
      let at : IsSeen (world_after (first_world config) seen) entry.event entry.reply = subst (λ (world : World). IsSeen world entry.event entry.reply) has.beside is.0 in
      record {
        under = ap (λ (c : Config). c.rules) kept ∙ has.under;
        beside = after ∙ ap (λ (c : Config). world_after (first_world c) (seen ++ entry ∷ [])) (sym kept);
        count = sym longer;
        legal = record {
          few = omega (arith, longer, has.count, has.legal.few, other);
          seen = λ under same. rules_alone.history config under (same ∙ sym has.under) (seen ++ entry ∷ []) (seen_more (first_world config) seen entry (has.legal.seen config has.under) at);
        };
      }

  -- one that isn't
  pub unlawful_more : (count ≡ most_entries) ⊎ IsFollowed old entry new false → IsLegalForSessions rules (seen ++ entry ∷ []) → ⊥
  unlawful_more (inl full) legal = omega (arith, full, longer, legal.few)
  unlawful_more (inr other) legal =
      other (subst (λ (world : World). IsSeen world entry.event entry.reply) (sym has.beside) (seen_at (first_world old.config) seen entry [] (legal.seen old.config has.under)))
