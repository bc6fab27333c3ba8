-- Commands of which a heap that never collects refuses none, and one that it never refuses.
use Rattle.std.proofs.Common.{◌≡◌, ◌∙◌, ℕ, zero, suc, ap, sym, refl, Bool, true, false, not, List, [], ◌∷◌, ◌++◌, Option, Some, None, set, get_or, true≢false, subst}
use Rattle.std.proofs.lemmas.Bool.{and_parts, and_from}
use Rattle.mh_model.specs.{declared.command.Command.Command, declared.command.Event.Event, declared.reply.Reply.Reply}
use Rattle.mh_model.specs.{declared.reply.Refusal.Refusal, declared.memory.NoMemory.NoMemory}
use Rattle.mh_model.specs.World.{Answer, Object, Performs, World, effect, heap_step, names_same, never_full, refusal, says, sight_of, slot_at, unless_refused, with_change, world_step, yes_or_no}
use Rattle.std.specs.Prelude.{Result, Ok, Err, IfOk, OnErr}
use Rattle.mh_heap.specs.{PlainShown.plain_showing, Shown.Showing}
use Rattle.mh_generate.specs.Taken.{are_taken, is_refused, is_taken, world_then}
use Rattle.mh_generate.specs.Auxiliary.{ends_first, is_first_here}

-- Refused commands -------------------------------------------------------------------------------

effect-refused : (world : World) (who : ℕ) (c : Command) → is_refused (effect world who c).reply ≡ true → (effect world who c).state ≡ world
effect-refused world who (Command.New slot references numbers) e = cc
effect-refused world who (Command.Get slot source field) e = cc
effect-refused world who (Command.Put slot field value) e = cc
effect-refused world who (Command.Copy slot source) e = cc
effect-refused world who (Command.Clear slot) e = cc
effect-refused world who (Command.Read slot index) e = refl
effect-refused world who (Command.Write slot index number) e = cc
effect-refused world who (Command.Same left right) e = refl
effect-refused world who (Command.Shape slot) e = refl
effect-refused world who asked e = cc

-- a refused command leaves the world as it was
pub refused_unchanged : (world : World) (who : ℕ) (c : Command) → is_refused (world_step world who c).reply ≡ true → (world_step world who c).state ≡ world
unfolding heap_step
refused_unchanged world who c e = go (refusal (sight_of never_full world) who c) e
  where
    go : (answer : Option Refusal) → is_refused (unless_refused answer world (effect world who c)).reply ≡ true → (unless_refused answer world (effect world who c)).state ≡ world
    go None h = effect-refused world who c h
    go (Some answer) h = refl

-- The first session ------------------------------------------------------------------------------

change-ended : (world : World) (name : Option ℕ) (change : Object → Object) → (with_change world name change).ended ≡ world.ended
change-ended world None change = refl
change-ended world (Some birth) change = refl

set_later : (ended : List Bool) (who : ℕ) → get_or (set ended (suc who) true) 0 false ≡ get_or ended 0 false
set_later [] who = refl
set_later (x ∷ xs) who = refl

effect-stays : (world : World) (who : ℕ) (c : Command) → ends_first who c ≡ false → get_or (effect world who c).state.ended 0 false ≡ get_or world.ended 0 false
effect-stays world who (Command.Put slot field value) e = ap (λ ended. get_or ended 0 false) (change-ended world _ _)
effect-stays world who (Command.Write slot index number) e = ap (λ ended. get_or ended 0 false) (change-ended world _ _)
effect-stays world zero Command.End e = absurd (true≢false e)
effect-stays world (suc who) Command.End e = set_later world.ended who
effect-stays world who other e = refl

-- it stays by any other command
pub first_stays : (world : World) (who : ℕ) (c : Command) → ends_first who c ≡ false → is_first_here world ≡ true → is_first_here (world_step world who c).state ≡ true
unfolding heap_step
first_stays world who c other here = go (refusal (sight_of never_full world) who c)
  where
    go : (answer : Option Refusal) → is_first_here (unless_refused answer world (effect world who c)).state ≡ true
    go None = ap not (effect-stays world who c other) ∙ here
    go (Some answer) = here

-- a command was performed, or there was no memory
pub performed_stays : (old new : World) (who : ℕ) (c : Command) (result : Result Reply NoMemory) → ends_first who c ≡ false → is_first_here old ≡ true
    → IfOk result (λ reply. Performs never_full old who c reply new) → OnErr result (plain_showing new ≡ plain_showing old) → is_first_here new ≡ true
performed_stays old new who c (Ok reply) other here performs failed = subst (λ (answer : Answer World). is_first_here answer.state ≡ true) performs (first_stays old who c other here)
performed_stays old new who c (Err error) other here performs failed = ap (λ (showing : Showing). is_first_here showing.view) failed ∙ here

pub performed_refused : (old new : World) (who : ℕ) (c : Command) (reply : Reply) → Performs never_full old who c reply new → is_refused reply ≡ true → new ≡ old
performed_refused old new who c reply performs refused =
    sym (ap (λ (answer : Answer World). answer.state) performs) ∙ refused_unchanged old who c (ap (λ (answer : Answer World). is_refused answer.reply) performs ∙ refused)

-- Nothing ----------------------------------------------------------------------------------------

-- the command of the first session that is never refused, and does nothing
abbrev pub nothing : Event
nothing = Event.Session 0 (Command.Same 0 0)

here_not_ended : (world : World) → is_first_here world ≡ true → get_or world.ended 0 false ≡ false
here_not_ended world here = go (get_or world.ended 0 false) refl here where
  go : (ended : Bool) → get_or world.ended 0 false ≡ ended → not ended ≡ true → ended ≡ false
  go true is h = cc
  go false is h = refl

pub nothing_is : (world : World) → is_first_here world ≡ true → world_step world 0 (Command.Same 0 0) ≡ says (yes_or_no (names_same (slot_at world 0) (slot_at world 0))) world
unfolding heap_step
nothing_is world here = rw (here_not_ended world here) refl

yes_or_no-granted : (b : Bool) → not (is_refused (yes_or_no b)) ≡ true
yes_or_no-granted true = refl
yes_or_no-granted false = refl

pub nothing_taken : (world : World) → is_first_here world ≡ true → is_taken world nothing ≡ true
nothing_taken world here = ap (λ (answer : Answer World). not (is_refused answer.reply)) (nothing_is world here) ∙ yes_or_no-granted (names_same (slot_at world 0) (slot_at world 0))

pub nothing_unchanged : (world : World) → is_first_here world ≡ true → world_then world nothing ≡ world
nothing_unchanged world here = ap (λ (answer : Answer World). answer.state) (nothing_is world here)

-- Lists of events --------------------------------------------------------------------------------

-- the world after events that there was room for
abbrev pub world_after : World → List Event → World
world_after world [] = world
world_after world (e ∷ events) = world_after (world_then world e) events

pub world_after-append : (world : World) (events more : List Event) → world_after world (events ++ more) ≡ world_after (world_after world events) more
world_after-append world [] more = refl
world_after-append world (e ∷ events) more = world_after-append (world_then world e) events more

pub taken-append : (world : World) (events more : List Event) → are_taken world events ≡ true → are_taken (world_after world events) more ≡ true → are_taken world (events ++ more) ≡ true
taken-append world [] more taken later = later
taken-append world (e ∷ events) more taken later =
    let both = and_parts (is_taken world e) (are_taken (world_then world e) events) taken in
    and_from _ _ both.0 (taken-append (world_then world e) events more both.1 later)
