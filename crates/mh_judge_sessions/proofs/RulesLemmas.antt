-- Of a configuration only the rules matter to the ever-growing world.
use mathlib.Core.Path.{fun_ext}
use Rattle.std.proofs.Common.{◌≡◌, ◌∙◌, inl, inr, ℕ, Bool, true, false, if◌then◌else◌, Option, Some, None, option_map, List, [], ◌∷◌, ap, sym, refl, subst}
use Rattle.mh_model.specs.{declared.command.Command.Command, declared.command.Event.Event}
use Rattle.mh_model.specs.{declared.config.Config.Config, declared.config.Rules.Rules, declared.history.Entry.Entry}
use Rattle.mh_model.specs.{declared.reply.Reply.Reply, declared.reply.Refusal.Refusal, Sessions.{AreSeen, IsSeen}}
use Rattle.mh_model.specs.Snapshot.{is_heap_full, world_beside_event}
use Rattle.mh_model.specs.World.{Answer, Object, World, done, effect, first_world, heap_step, most_fields_under, never_full, number_of, object_in, object_named, own_slot, reference_of, refusal, says, shape_of, shape_reply, sight_of, slot_at, unless_refused, with_change, with_number, with_reference, with_slot, world_step}
use Rattle.mh_judge_sessions.specs.Laws.{OnlyTheRulesMatter, world_under}

-- some configuration with these rules
abbrev pub some_config : Rules → Config
some_config rules = record { pages = 1; quantum = 209; trigger = 0; every = 0; rules = rules; in_limits = refl }

-- One command ------------------------------------------------------------------------------------

module _ (config : Config) (world : World) where
  named-under : (name : Option ℕ) → object_named (world_under config world) name ≡ object_named world name
  named-under None = refl
  named-under (Some birth) = refl

  in-under : (slot : ℕ) → object_in (world_under config world) slot ≡ object_in world slot
  in-under slot = named-under (slot_at world slot)

  change-under : (name : Option ℕ) (change : Object → Object) → with_change (world_under config world) name change ≡ world_under config (with_change world name change)
  change-under None change = refl
  change-under (Some birth) change = refl

  refusal-under : config.rules ≡ world.config.rules → (who : ℕ) (command : Command) → refusal (sight_of never_full (world_under config world)) who command ≡ refusal (sight_of never_full world) who command
  refusal-under same who command =
      let shapes : (λ (slot : ℕ). option_map shape_of (object_in (world_under config world) slot)) ≡ (λ (slot : ℕ). option_map shape_of (object_in world slot)) = fun_ext (λ slot. ap (option_map shape_of) (in-under slot)) in
      ap (λ shape_in. refusal (record { most = most_fields_under config.rules; is_full = never_full; shape_in = shape_in; ended = world.ended }) who command) shapes
      ∙ ap (λ rules. refusal (record { most = most_fields_under rules; is_full = never_full; shape_in = λ slot. option_map shape_of (object_in world slot); ended = world.ended }) who command) same

  effect-under : (who : ℕ) (command : Command) → effect (world_under config world) who command ≡ says (effect world who command).reply (world_under config (effect world who command).state)
  effect-under who (Command.New slot references numbers) = refl
  effect-under who (Command.Get slot source field) = ap (λ object. done (with_slot (world_under config world) (own_slot who slot) (reference_of object field))) (in-under (own_slot who source))
  effect-under who (Command.Put slot field value) = ap (λ (after : World). done after) (change-under (slot_at world (own_slot who slot)) (with_reference field (slot_at world (own_slot who value))))
  effect-under who (Command.Copy slot source) = refl
  effect-under who (Command.Clear slot) = refl
  effect-under who (Command.Read slot index) = ap (λ object. says (Reply.Number (number_of object index)) (world_under config world)) (in-under (own_slot who slot))
  effect-under who (Command.Write slot index number) = ap (λ (after : World). done after) (change-under (slot_at world (own_slot who slot)) (with_number index number))
  effect-under who (Command.Same left right) = refl
  effect-under who (Command.Shape slot) = ap (λ object. says (shape_reply (option_map shape_of object)) (world_under config world)) (in-under (own_slot who slot))
  effect-under who asked = refl

  answer-under : (refused : Option Refusal) (old new : Answer World) → new ≡ says old.reply (world_under config old.state)
      → unless_refused refused (world_under config world) new ≡ says (unless_refused refused world old).reply (world_under config (unless_refused refused world old).state)
  answer-under None old new same = same
  answer-under (Some refused) old new same = refl

  pub step-under : config.rules ≡ world.config.rules → (who : ℕ) (command : Command) → world_step (world_under config world) who command ≡ says (world_step world who command).reply (world_under config (world_step world who command).state)
  unfolding heap_step
  step-under same who command =
      ap (λ refused. unless_refused refused (world_under config world) (effect (world_under config world) who command)) (refusal-under same who command)
      ∙ answer-under (refusal (sight_of never_full world) who command) (effect world who command) (effect (world_under config world) who command) (effect-under who command)

-- Events -----------------------------------------------------------------------------------------

-- no command changes the configuration
step-config : (world : World) (who : ℕ) (command : Command) → (world_step world who command).state.config ≡ world.config
step-config world who command = ap (λ (answer : Answer World). answer.state.config) (step-under world.config world refl who command)

pub beside-config : (world : World) (event : Event) (answer : Reply) → (world_beside_event world event answer).config ≡ world.config
beside-config world (Event.Session who command) answer = by (is_heap_full answer) where
  by : (full : Bool) → (if full then world else (world_step world who command).state).config ≡ world.config
  by true = refl
  by false = step-config world who command
beside-config world (Event.Control control) answer = refl

pub beside-under : (config : Config) (world : World) → config.rules ≡ world.config.rules → (event : Event) (answer : Reply) → world_beside_event (world_under config world) event answer ≡ world_under config (world_beside_event world event answer)
beside-under config world same (Event.Session who command) answer = by (is_heap_full answer) where
  by : (full : Bool) → (if full then world_under config world else (world_step (world_under config world) who command).state) ≡ world_under config (if full then world else (world_step world who command).state)
  by true = refl
  by false = ap (λ (after : Answer World). after.state) (step-under config world same who command)
beside-under config world same (Event.Control control) answer = refl

is_seen-under : (config : Config) (world : World) → config.rules ≡ world.config.rules → (event : Event) (answer : Reply) → IsSeen world event answer → IsSeen (world_under config world) event answer
is_seen-under config world same (Event.Session who command) answer (inl is) = inl (is ∙ sym (ap (λ (after : Answer World). after.reply) (step-under config world same who command)))
is_seen-under config world same (Event.Session who command) answer (inr lacks) = inr (lacks.0, ap (λ (after : Answer World). after.reply) (step-under config world same who command) ∙ lacks.1)
is_seen-under config world same (Event.Control control) answer seen = tt

are_seen-under : (config : Config) (world : World) → config.rules ≡ world.config.rules → (history : List Entry) → AreSeen world history → AreSeen (world_under config world) history
are_seen-under config world same [] seen = tt
are_seen-under config world same (entry ∷ entries) seen =
    let after = world_beside_event world entry.event entry.reply in
    let kept : config.rules ≡ after.config.rules = same ∙ sym (ap (λ (c : Config). c.rules) (beside-config world entry.event entry.reply)) in (
      is_seen-under config world same entry.event entry.reply seen.0,
      subst (λ (w : World). AreSeen w entries) (sym (beside-under config world same entry.event entry.reply)) (are_seen-under config after kept entries seen.1),
    )

pub rules_alone : OnlyTheRulesMatter
rules_alone = record {
  command = step-under;
  history = λ config other same history seen. are_seen-under other (first_world config) same history seen;
}
