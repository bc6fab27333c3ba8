-- What a command answers and leaves, from its tests.
use Rattle.std.proofs.Common.{◌≡◌, ℕ, ◌+◌, ◌-◌, ◌<◌, true, false, Bool, Option, Some, None, is_none, option_map, unwrap_or, [], ◌∷◌, get_or, set, nat_le, nat_lt, refl, ap, ◌∙◌, add-one, arith}
use Rattle.mh_model.specs.{declared.command.Command.Command, declared.reply.Refusal.Refusal}
use Rattle.mh_model.specs.declared.reply.Refusal.TheVariants.{BadSlot, TooLarge, HeapFull, Ended, TooManySessions}
use Rattle.mh_model.specs.declared.reply.Reply.{Reply}
use Rattle.mh_model.specs.World.{Answer, most_fields, own_slot, first_refusal, is_bad, refusal, never_full, done, says, unless_refused}
use Rattle.mh_model.specs.{Table.Made, Collector.Collector}
use Rattle.mh_model.specs.Mutator.{HeapState, with_root, with_roots_cleared, with_session_cleared, new_group, with_born, heap_sight, heap_effect, mutator_step}
use Rattle.mh_laws.specs.{Auxiliary.IsBorn, Commands.CommandsAreAnswered}

-- Tests ------------------------------------------------------------------------------------------

refused-step : (heap : HeapState) (who : ℕ) (command : Command) (refused : Refusal) → refusal (heap_sight heap) who command ≡ Some refused → mutator_step heap who command ≡ says (Reply.Refused refused) heap
unfolding mutator_step
refused-step heap who command refused e = ap (λ o. unless_refused o heap (heap_effect heap who command)) e

taken-step : (heap : HeapState) (who : ℕ) (command : Command) → refusal (heap_sight heap) who command ≡ None → mutator_step heap who command ≡ heap_effect heap who command
unfolding mutator_step
taken-step heap who command e = ap (λ o. unless_refused o heap (heap_effect heap who command)) e

-- New objects ------------------------------------------------------------------------------------

-- the answer to a new object, by its tests in order
answer_to_new : (heap : HeapState) (who slot : ℕ) → (many ended bad large : Bool) → Option Made → Answer HeapState
answer_to_new heap who slot many ended bad large group =
    unless_refused (first_refusal ((many, TooManySessions) ∷ (ended, Ended) ∷ (bad, BadSlot) ∷ (large, TooLarge) ∷ (is_none group, HeapFull) ∷ [])) heap (done (unwrap_or (option_map (with_born heap (own_slot who slot)) group) heap))

-- A new object is answered by a full heap only if some part has no place
pub new-full : (heap : HeapState) (who slot references numbers : ℕ) → (mutator_step heap who (Command.New slot references numbers)).reply ≡ Reply.Refused HeapFull → new_group heap references numbers ≡ None
unfolding mutator_step heap_effect answer_to_new
new-full heap who slot references numbers e = go (nat_le 8 who) (get_or heap.ended who false) (is_bad slot) (nat_lt (most_fields heap.config) (references + numbers)) (new_group heap references numbers) e
  where
    go : (many ended bad large : Bool) (group : Option Made) → (answer_to_new heap who slot many ended bad large group).reply ≡ Reply.Refused HeapFull → group ≡ None
    go true ended bad large group h = cc
    go false true bad large group h = cc
    go false false true large group h = cc
    go false false false true group h = cc
    go false false false false None h = refl
    go false false false false (Some made) h = cc

-- and if nothing else refuses it, by each heap that has none
pub full-new : (heap : HeapState) (who slot references numbers : ℕ) → refusal (record (heap_sight heap) { is_full = never_full }) who (Command.New slot references numbers) ≡ None → new_group heap references numbers ≡ None
    → (mutator_step heap who (Command.New slot references numbers)).reply ≡ Reply.Refused HeapFull
unfolding mutator_step heap_effect answer_to_new
full-new heap who slot references numbers e none = go (nat_le 8 who) (get_or heap.ended who false) (is_bad slot) (nat_lt (most_fields heap.config) (references + numbers)) (new_group heap references numbers) e none
  where
    go : (many ended bad large : Bool) (group : Option Made) → first_refusal ((many, TooManySessions) ∷ (ended, Ended) ∷ (bad, BadSlot) ∷ (large, TooLarge) ∷ (false, HeapFull) ∷ []) ≡ None → group ≡ None
        → (answer_to_new heap who slot many ended bad large group).reply ≡ Reply.Refused HeapFull
    go true ended bad large group h is = cc
    go false true bad large group h is = cc
    go false false true large group h is = cc
    go false false false true group h is = cc
    go false false false false None h is = refl
    go false false false false (Some made) h is = cc

-- and when it is done, its parts were made
pub new-done : (heap : HeapState) (who slot references numbers : ℕ) → (mutator_step heap who (Command.New slot references numbers)).reply ≡ Reply.Done → IsBorn heap who slot references numbers
unfolding mutator_step heap_effect answer_to_new
new-done heap who slot references numbers e = go (nat_le 8 who) (get_or heap.ended who false) (is_bad slot) (nat_lt (most_fields heap.config) (references + numbers)) (new_group heap references numbers) refl e refl
  where
    go : (many ended bad large : Bool) (group : Option Made) → new_group heap references numbers ≡ group → (answer_to_new heap who slot many ended bad large group).reply ≡ Reply.Done
        → (mutator_step heap who (Command.New slot references numbers)).state ≡ (answer_to_new heap who slot many ended bad large group).state → IsBorn heap who slot references numbers
    go true ended bad large group is h same = cc
    go false true bad large group is h same = cc
    go false false true large group is h same = cc
    go false false false true group is h same = cc
    go false false false false None is h same = cc
    go false false false false (Some made) is h same = record { made = made; group = is; state = same }

born-step : (heap : HeapState) (who slot references numbers : ℕ) (made : Made) → refusal (record (heap_sight heap) { is_full = never_full }) who (Command.New slot references numbers) ≡ None → new_group heap references numbers ≡ Some made
    → mutator_step heap who (Command.New slot references numbers) ≡ done (with_born heap (own_slot who slot) made)
unfolding mutator_step heap_effect answer_to_new
born-step heap who slot references numbers made e is = go (nat_le 8 who) (get_or heap.ended who false) (is_bad slot) (nat_lt (most_fields heap.config) (references + numbers)) (new_group heap references numbers) e is
  where
    go : (many ended bad large : Bool) (group : Option Made) → first_refusal ((many, TooManySessions) ∷ (ended, Ended) ∷ (bad, BadSlot) ∷ (large, TooLarge) ∷ (false, HeapFull) ∷ []) ≡ None → group ≡ Some made
        → answer_to_new heap who slot many ended bad large group ≡ done (with_born heap (own_slot who slot) made)
    go true ended bad large group h same = cc
    go false true bad large group h same = cc
    go false false true large group h same = cc
    go false false false true group h same = cc
    go false false false false None h same = cc
    go false false false false (Some other) h same = ap (λ o. done (unwrap_or (option_map (with_born heap (own_slot who slot)) o) heap)) same

-- Ends -------------------------------------------------------------------------------------------

end-effect : (heap : HeapState) (who : ℕ) → heap_effect heap who Command.End ≡ done (record heap { collector = with_roots_cleared heap.collector (own_slot who 0) 16; ended = set heap.ended who true })
unfolding heap_effect with_session_cleared
end-effect heap who = refl

emptied-step : (c : Collector) (slot end : ℕ) → slot < end → with_roots_cleared c slot (end - slot) ≡ with_roots_cleared (with_root c slot None) (slot + 1) (end - (slot + 1))
emptied-step c slot end below = grind (arith, add-one)

pub commands-answered : CommandsAreAnswered
commands-answered = record {
  refused = refused-step;
  taken = taken-step;
  born = born-step;
  ended = λ heap who e. taken-step heap who Command.End e ∙ end-effect heap who;
  emptied = emptied-step;
}
