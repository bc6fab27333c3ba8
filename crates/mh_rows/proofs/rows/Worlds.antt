-- Worlds after events, which objects paths reach there, what a cycle keeps, and views that do not agree with a world.
use Rattle.std.proofs.Common.{[], ap, arith, Bool, get_or, inl, inr, IsSome, List, lit<, lit≤, None, not, Option, refl, replicate, Some, suc, true, ℕ, ◌&&◌, ◌==◌, ◌∷◌, ◌≡◌, ◌≤◌, ⊎_elim}
use Rattle.std.proofs.lemmas.Bool.Decides.{nat_tests}
use Rattle.mh_model.specs.declared.command.Command.TheVariants.{Clear, New, Put, Write}
use Rattle.mh_model.specs.{declared.reply.Refusal.TheVariants.{BadSlot, HeapFull}, declared.reply.Reply.Reply}
use Rattle.mh_model.specs.{Paths.{Agrees, IsPath, Reachable}, Snapshot.{IsKept, world_beside}}
use Rattle.mh_model.specs.World.{births, first_world, IsClosed, number_of, Object, object_at, reference_of, World}
use Rattle.mh_rows.proofs.rows.Worked.{a, four_pages, quantum_asked, start, stat, worked, world_after}

-- Events -----------------------------------------------------------------------------------------

-- each command takes its step, and no control does
-- refuses: the world ends with the first control
pub after_two_objects : (world_after (first_world four_pages) (a (New 0 1 1) ∷ stat ∷ a (New 1 0 1) ∷ a (Write 1 0 5) ∷ start ∷ a (Put 0 0 1) ∷ quantum_asked ∷ a (Clear 1) ∷ [])).objects
    ≡ Some (record { references = Some 1 ∷ []; numbers = 0 ∷ [] }) ∷ Some (record { references = []; numbers = 5 ∷ [] }) ∷ []
unfolding worked
after_two_objects = refl

-- beside a heap the world takes each command but one that was answered by a full heap
-- refuses: the world takes no step after a refused one
pub beside_a_full_heap : births (world_beside (first_world four_pages) (a (New 0 0 0) ∷ start ∷ a (New 1 0 0) ∷ a (New 16 0 0) ∷ a (New 2 0 0) ∷ []) (Reply.Done ∷ Reply.Done ∷ Reply.Refused HeapFull ∷ Reply.Refused BadSlot ∷ Reply.Done ∷ [])) ≡ 2
unfolding worked
beside_a_full_heap = refl

-- Paths ------------------------------------------------------------------------------------------

-- three objects: a slot names the first, which refers to the second, and the third is named no more
abbrev three_objects : World
three_objects = world_after (first_world four_pages) (a (New 0 1 0) ∷ a (New 1 0 0) ∷ a (Put 0 0 1) ∷ a (New 1 0 0) ∷ a (Clear 1) ∷ [])

-- no slot of these names a birth
abbrev names_no : ℕ → List (Option ℕ) → Bool
names_no birth [] = true
names_no birth (None ∷ slots) = names_no birth slots
names_no birth (Some other ∷ slots) = not (other == birth) && names_no birth slots

no_slot_names : (birth : ℕ) (slots : List (Option ℕ)) → names_no birth slots ≡ true → (slot : ℕ) → ¬ (get_or slots slot None ≡ Some birth)
no_slot_names birth (None ∷ slots) none (suc slot) e = no_slot_names birth slots none slot e
no_slot_names birth (Some other ∷ slots) none (suc slot) e = no_slot_names birth slots (grind (arith, nat_tests)) slot e
no_slot_names birth slots none slot e = grind (arith, nat_tests)

-- an object that a slot names is reached
-- refuses: every birth is reached
pub named : Reachable three_objects 0
unfolding worked
named = ([], (0, refl))

-- an object that a reached object refers to is reached
-- refuses: only what is named is reached
pub reached_through_another : Reachable three_objects 1
unfolding worked
reached_through_another = (0 ∷ [], ((0, refl), (0, refl)))

-- a cycle keeps what its snapshot reached
-- refuses: only what is named is reached
pub kept_since_reached : IsKept three_objects 3 1
unfolding worked
kept_since_reached = inl (0 ∷ [], ((0, refl), (0, refl)))

-- a cycle keeps what was born since its snapshot
-- refuses: a cycle keeps all that was born before its end; a cycle keeps nothing that is born while it runs
pub kept_since_born : IsKept three_objects 5 4
unfolding worked
kept_since_born = inr (lit≤ tt, lit< tt)

third_unreferred : (nearest field : ℕ) → ¬ (reference_of (object_at three_objects nearest) field ≡ Some 2)
unfolding worked
third_unreferred nearest field e = grind arith

no_path : (path : List ℕ) → ¬ IsPath three_objects 2 path
unfolding worked
no_path [] is = no_slot_names 2 three_objects.slots refl is.0 is.1
no_path (nearest ∷ path) is = third_unreferred nearest is.0.0 is.0.1

-- an object that no slot names and no object refers to is not reached
-- refuses: every birth is reached; every named path reaches every birth
pub not_reached : ¬ Reachable three_objects 2
unfolding worked
not_reached reached = no_path reached.0 reached.1

-- a cycle does not keep what was born before its snapshot and was not reached there
-- refuses: a cycle keeps all that was born before its end; a cycle keeps nothing that is born while it runs
pub not_kept : ¬ IsKept three_objects 5 2
unfolding worked
not_kept kept = ⊎_elim (λ reached. not_reached reached) (λ born. let low : 3 ≤ 2 = born.0 in omega arith) kept

-- a world whose slot names nothing is not closed
-- refuses: a slot of a closed world may name nothing
pub not_closed : ¬ IsClosed (record three_objects { objects = [] })
unfolding worked
not_closed closed = let there : IsSome (object_at (record three_objects { objects = [] }) 0) = closed.slots 0 0 refl in cc

-- Views ------------------------------------------------------------------------------------------

-- a world with one object, which a slot names
abbrev one_object : World
one_object = world_after (first_world four_pages) (a (New 0 0 1) ∷ [])

abbrev other_object : Object
other_object = record { references = []; numbers = 5 ∷ [] }

-- a view without an object that is reached does not agree with the world
-- refuses: a view may lack what is reached; every birth is reached
pub without_a_reached_object : ¬ Agrees (record one_object { objects = None ∷ [] }) one_object
unfolding worked
without_a_reached_object agrees = let there : IsSome (object_at (record one_object { objects = None ∷ [] }) 0) = agrees.reached 0 ([], (0, refl)) in cc

-- a view with another number in an object does not agree
-- refuses: a view may have other objects
pub with_another_number : ¬ Agrees (record one_object { objects = Some other_object ∷ [] }) one_object
unfolding worked
with_another_number agrees = let number : ℕ = 5 in let same : 0 ≡ number = ap (λ (o : Option Object). number_of o 0) (agrees.objects 0 other_object refl) in omega (arith, same)

-- a view whose slot names nothing does not agree
-- refuses: a view may have other slots
pub with_another_slot : ¬ Agrees (record one_object { slots = replicate 144 None }) one_object
unfolding worked
with_another_slot agrees = let same : replicate 144 None ≡ one_object.slots = agrees.slots in cc

-- a view in which another session has ended does not agree
-- refuses: a view may have other ends
pub with_another_end : ¬ Agrees (record one_object { ended = true ∷ [] }) one_object
unfolding worked
with_another_end agrees = let same : true ∷ [] ≡ one_object.ended = agrees.ended in cc

-- a view with another next birth does not agree
-- refuses: a view may have another next birth
pub with_another_birth : ¬ Agrees (record one_object { objects = object_at one_object 0 ∷ None ∷ [] }) one_object
unfolding worked
with_another_birth agrees = let same : births (record one_object { objects = object_at one_object 0 ∷ None ∷ [] }) ≡ births one_object = agrees.next_birth in omega arith
