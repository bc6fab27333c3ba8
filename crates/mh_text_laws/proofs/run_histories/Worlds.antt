-- Replies to commands are well formed. They are those of the ever-growing world, whose objects have the counts and numbers that commands gave them.
use Rattle.std.proofs.Common.{◌≡◌, ◌∙◌, ◌⊎◌, inl, inr, ℕ, suc, ◌<◌, ◌^◌, Bool, true, List, [], ◌∷◌, ◌++◌, length, get_or, set, replicate, Option, Some, None, option_map, ap, refl, subst, arith}
use Rattle.std.proofs.lemmas.Bool.{and_from, and_parts, cases_Bool, false≢true, lt-ltb, ltb-true}
use Rattle.std.proofs.{lemmas.List.{length-replicate, length-set}, lemmas.Option.none-some}
use Rattle.std.specs.List.{list_all}
use Rattle.mh_model.specs.{declared.command.Command.Command, declared.command.Event.Event}
use Rattle.mh_model.specs.{declared.config.Config.Config, declared.history.Version.TheVariants.Two}
use Rattle.mh_model.specs.{declared.reply.Reply.Reply, Forms.{command_phrase, is_sayable, u32, u64}}
use Rattle.mh_model.specs.{HistoryTexts.is_event, Machine.{Machine, event_step, first_machine, machine_after}}
use Rattle.mh_model.specs.Replies.{is_reply}
use Rattle.mh_model.specs.Snapshot.{Moment, first_moment, half_moment, is_heap_full, moment_after, next_moment, world_beside_event}
use Rattle.mh_model.specs.World.{Object, World, blank, effect, first_world, heap_step, number_of, object_at, object_named, own_slot, shape_of, shape_reply, slot_at, with_change, with_number, with_object, with_reference, world_step, yes_or_no}
use Rattle.mh_table_laws.proofs.Lists.{get_or-set_either}
use Rattle.mh_run_laws.proofs.{following.AllCommands.commands-follow, runs.FaithfulMoments.replies-worlds}
use Rattle.mh_run_laws.proofs.worlds.Moments.{machine-moment_after}
use Rattle.mh_text_laws.proofs.run_histories.Forwarders.{map-some}

-- Objects ----------------------------------------------------------------------------------------

-- counts of 32 bits, and numbers of 64
record IsSmallObject (object : Object) : Type 0 where
  references : length object.references < 2 ^ 32
  count : length object.numbers < 2 ^ 32
  numbers : (index : ℕ) → get_or object.numbers index 0 < 2 ^ 64

record IsSmallWorld (world : World) : Type 0 where
  objects : (birth : ℕ) (object : Object) → object_at world birth ≡ Some object → IsSmallObject object

zeros : (count index : ℕ) → get_or {A = ℕ} (replicate count 0) index 0 < 2 ^ 64
zeros (suc count) (suc index) = zeros count index
zeros count index = omega arith

blank_small : (references numbers : ℕ) → references < 2 ^ 32 → numbers < 2 ^ 32 → IsSmallObject (blank references numbers)
blank_small references numbers few also = grind (arith, length-replicate, zeros)

with_reference_small : (field : ℕ) (value : Option ℕ) (object : Object) → IsSmallObject object → IsSmallObject (with_reference field value object)
with_reference_small field value object small = record { references = omega (arith, length-set object.references field value, small.references); count = small.count; numbers = small.numbers }

with_number_small : (index number : ℕ) (object : Object) → number < 2 ^ 64 → IsSmallObject object → IsSmallObject (with_number index number object)
with_number_small index number object below small = record {
  references = small.references;
  count = omega (arith, length-set object.numbers index number, small.count);
  numbers = λ other. elim (get_or-set_either object.numbers index other number 0 (get_or (set object.numbers index number) other 0) refl) [
    | inl written ↦ omega (arith, written, below)
    | inr before ↦ omega (arith, before, small.numbers other)
  ];
}

-- Worlds -----------------------------------------------------------------------------------------

change_small : (world : World) (name : Option ℕ) (change : Object → Object) → ((object : Object) → IsSmallObject object → IsSmallObject (change object)) → IsSmallWorld world → IsSmallWorld (with_change world name change)
change_small world None change keeps small = small
change_small world (Some birth) change keeps small = record {
  objects = λ other object e. elim (get_or-set_either world.objects birth other (option_map change (object_at world birth)) None (Some object) e) [
    | inl written ↦ let (old, at, is) = map-some change (object_at world birth) object written in subst IsSmallObject is (keeps old (small.objects birth old at))
    | inr before ↦ small.objects other object before
  ];
}

last_or_before : {X : Type 0} (xs : List (Option X)) (y : Option X) (i : ℕ) (x : X) → get_or (xs ++ y ∷ []) i None ≡ Some x → (y ≡ Some x) ⊎ (get_or xs i None ≡ Some x)
last_or_before (z ∷ xs) y (suc i) x e = last_or_before xs y i x e
last_or_before xs y i x e = grind (arith, none-some)

born_small : (world : World) (slot : ℕ) (object : Object) → IsSmallObject object → IsSmallWorld world → IsSmallWorld (with_object world slot object)
born_small world slot object born small = record {
  objects = λ birth other e. elim (last_or_before world.objects (Some object) birth other e) [
    | inl last ↦ subst IsSmallObject (some_same object other last) born
    | inr before ↦ small.objects birth other before
  ];
}
  where
    some_same : (a b : Object) → Some a ≡ Some b → a ≡ b
    some_same a b e = cc

effect_small : (world : World) (who : ℕ) (c : Command) → is_sayable (command_phrase c) ≡ true → IsSmallWorld world → IsSmallWorld (effect world who c).state
effect_small world who (Command.New slot references numbers) said small =
    let counts = and_parts _ _ (and_parts _ _ said).1 in
    born_small world (own_slot who slot) (blank references numbers) (blank_small references numbers (ltb-true references u32 counts.0) (ltb-true numbers u32 (and_parts _ _ counts.1).0)) small
effect_small world who (Command.Put slot field value) said small = change_small world (slot_at world (own_slot who slot)) _ (with_reference_small field (slot_at world (own_slot who value))) small
effect_small world who (Command.Write slot index number) said small =
    let below = ltb-true number u64 (and_parts _ _ (and_parts _ _ (and_parts _ _ said).1).1).0 in
    change_small world (slot_at world (own_slot who slot)) _ (λ object. with_number_small index number object below) small
effect_small world who asked said small = record { objects = small.objects }

step_small : (world : World) (who : ℕ) (c : Command) → is_sayable (command_phrase c) ≡ true → IsSmallWorld world → IsSmallWorld (world_step world who c).state
unfolding heap_step
step_small world who c said small = grind (arith, effect_small)

-- Replies ----------------------------------------------------------------------------------------

named_small : (world : World) (name : Option ℕ) (object : Object) → IsSmallWorld world → object_named world name ≡ Some object → IsSmallObject object
named_small world None object small e = absurd (none-some object e)
named_small world (Some birth) object small e = small.objects birth object e

number_small : (found : Option Object) (index : ℕ) → ((object : Object) → found ≡ Some object → IsSmallObject object) → number_of found index < 2 ^ 64
number_small None index small = omega arith
number_small (Some object) index small = (small object refl).numbers index

shape_in_range : (found : Option Object) → ((object : Object) → found ≡ Some object → IsSmallObject object) → is_reply Two (shape_reply (option_map shape_of found)) ≡ true
shape_in_range found small = grind (arith, and_from, lt-ltb)

answer_in_range : (test : Bool) → is_reply Two (yes_or_no test) ≡ true
answer_in_range test = grind arith

effect_in_range : (world : World) (who : ℕ) (c : Command) → IsSmallWorld world → is_reply Two (effect world who c).reply ≡ true
effect_in_range world who (Command.Read slot index) small = search (arith, and_from, lt-ltb, number_small, named_small)
effect_in_range world who (Command.Same left right) small = answer_in_range _
effect_in_range world who asked small = grind (arith, shape_in_range, named_small)

step_in_range : (world : World) (who : ℕ) (c : Command) → IsSmallWorld world → is_reply Two (world_step world who c).reply ≡ true
unfolding heap_step
step_in_range world who c small = search (arith, effect_in_range)

full_in_range : (answer : Reply) → is_heap_full answer ≡ true → is_reply Two answer ≡ true
full_in_range other full = grind (arith, false≢true)

-- Runs -------------------------------------------------------------------------------------------

beside_small : (world : World) (e : Event) (answer : Reply) → is_event Two e ≡ true → IsSmallWorld world → IsSmallWorld (world_beside_event world e answer)
beside_small world e answer known small = grind (arith, step_small, and_parts)

moment_small : (events : List Event) (moment : Moment) → list_all (is_event Two) events ≡ true → IsSmallWorld moment.world → IsSmallWorld (moment_after moment events).world
unfolding moment_after next_moment half_moment
moment_small [] moment known small = small
moment_small (e ∷ events) moment known small =
    moment_small events (next_moment moment e) (and_parts _ _ known).1 (beside_small moment.world e (event_step moment.machine e).reply (and_parts _ _ known).0 small)

first_small : (config : Config) → IsSmallWorld (first_world config)
first_small config = record { objects = λ birth object e. absurd (none-some object e) }

-- the reply to a command after such events
pub command-in_range : (config : Config) (before : List Event) (who : ℕ) (c : Command) → list_all (is_event Two) before ≡ true
    → is_reply Two (event_step (machine_after (first_machine config) before) (Event.Session who c)).reply ≡ true
command-in_range config before who c known =
    let moment : Moment = moment_after (first_moment config) before in
    let small : IsSmallWorld moment.world = moment_small before (first_moment config) known (first_small config) in
    let answer : Reply = (event_step moment.machine (Event.Session who c)).reply in
    let in_range : is_reply Two answer ≡ true = elim (cases_Bool (is_heap_full answer)) [
      | inl full ↦ full_in_range answer full
      | inr other ↦ ap (is_reply Two) (replies-worlds commands-follow config before who c other) ∙ step_in_range moment.world who c small
    ] in
    subst (λ (m : Machine). is_reply Two (event_step m (Event.Session who c)).reply ≡ true) (machine-moment_after before (first_moment config)) in_range
