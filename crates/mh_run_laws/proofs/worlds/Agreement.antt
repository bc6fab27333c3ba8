-- Agreement goes on: a command on a view that agrees with the world gives the world's reply and a view that agrees, and agreement is transitive.
use mathlib.Core.Path.{fun_ext}
use Rattle.std.proofs.Common.{◌≡◌, ℕ, zero, suc, ◌+◌, Bool, List, [], ◌∷◌, ◌++◌, length, get_or, set, replicate, Option, Some, None, option_map, ◌⊎◌, inl, inr, refl, sym, ap, ap₂, ◌∙◌, arith}
use Rattle.std.proofs.{lemmas.Bool.cases_eq, lemmas.Option.{none-some, same_Some}}
use Rattle.std.proofs.lemmas.List.{get_or-set_same, get_or-set_other, length-set, length_push}
use Rattle.mh_model.specs.declared.command.Command.{Command}
use Rattle.mh_model.specs.World.{Object, World, own_slot, object_at, slot_at, object_named, object_in, reference_of, refusal, with_reference, with_slot, with_change, with_object, cleared, effect, sight_of, heap_step}
use Rattle.mh_model.specs.Paths.{Refers, IsPath, Reachable, Agrees}
use Rattle.mh_table_laws.proofs.Lists.{from_some, to_some, below_length, get_or-set_either}

-- what holds of the births that slots name, and goes along references, holds of all that is reached
pub Reachable-in : (world : World) (P : ℕ → Type 0) → ((slot birth : ℕ) → slot_at world slot ≡ Some birth → P birth)
    → ((birth target : ℕ) → P birth → Refers world birth target → P target) → (path : List ℕ) (birth : ℕ) → IsPath world birth path → P birth
Reachable-in world P in_slots along [] birth (slot, named) = in_slots slot birth named
Reachable-in world P in_slots along (nearest ∷ path) birth is_path = along nearest birth (Reachable-in world P in_slots along path nearest is_path.1) is_path.0

-- Lists ------------------------------------------------------------------------------------------

push-new : {X : Type 0} (xs : List (Option X)) (x : X) → get_or (xs ++ Some x ∷ []) (length xs) None ≡ Some x
push-new [] x = refl
push-new (y ∷ xs) x = push-new xs x

push-old : {X : Type 0} (xs : List (Option X)) (y : X) (i : ℕ) (x : X) → get_or xs i None ≡ Some x → get_or (xs ++ Some y ∷ []) i None ≡ Some x
push-old (z ∷ xs) y (suc i) x e = push-old xs y i x e
push-old xs y i x e = grind (arith, none-some)

push-either : {X : Type 0} (xs : List (Option X)) (y : X) (i : ℕ) (x : X) → get_or (xs ++ Some y ∷ []) i None ≡ Some x → (get_or xs i None ≡ Some x) ⊎ ((i ≡ length xs) × (y ≡ x))
push-either (z ∷ xs) y (suc i) x e = elim (push-either xs y i x e) [ inl k ↦ inl k | inr k ↦ inr (ap suc k.0, k.1) ]
push-either xs y i x e = grind (arith, same_Some, none-some)

-- One change -------------------------------------------------------------------------------------

-- an object that is changed
changed : (objects : List (Option Object)) (birth : ℕ) (change : Object → Object) (x : Object) → get_or objects birth None ≡ Some x → get_or (set objects birth (option_map change (get_or objects birth None))) birth None ≡ Some (change x)
changed objects birth change x e = get_or-set_same objects birth _ None (below_length objects birth x e) ∙ ap (option_map change) e

-- a reference is one of an object
reference_of-object : (o : Option Object) (field target : ℕ) → reference_of o field ≡ Some target → (x : Object) × (o ≡ Some x) × (get_or x.references field None ≡ Some target)
reference_of-object o field target e = grind arith

module _ (view world : World) (agrees : Agrees view world) where
  slot_at-same : (slot : ℕ) → slot_at view slot ≡ slot_at world slot
  slot_at-same slot = ap (λ slots. get_or slots slot None) agrees.slots

  object_in-same : (slot : ℕ) → object_in view slot ≡ object_in world slot
  object_in-same slot = grind arith

  -- the tests of a command see the same
  refusal-same : (is_full : ℕ → ℕ → Bool) (who : ℕ) (command : Command) → refusal (sight_of is_full view) who command ≡ refusal (sight_of is_full world) who command
  refusal-same is_full who command = grind (arith, object_in-same)

  -- a slot that names what is reached
  with_slot-agrees : (slot : ℕ) (name name' : Option ℕ) → name ≡ name' → ((birth : ℕ) → name' ≡ Some birth → Reachable world birth) → Agrees (with_slot view slot name) (with_slot world slot name')
  with_slot-agrees slot name name' same reached = record {
    config = agrees.config;
    next_birth = agrees.next_birth;
    slots = ap₂ (λ slots n. set slots slot n) agrees.slots same;
    ended = agrees.ended;
    objects = agrees.objects;
    reached = λ birth path. agrees.reached birth (Reachable-in (with_slot world slot name') (Reachable world) named (λ near target before refers. (near ∷ before.0, (refers, before.1))) path.0 birth path.1);
  }
    where
      named : (other birth : ℕ) → slot_at (with_slot world slot name') other ≡ Some birth → Reachable world birth
      named other birth h = elim (get_or-set_either world.slots slot other name' None (Some birth) h) [ inl k ↦ reached birth k | inr k ↦ ([], (other, k)) ]

  -- an object that is changed, its references leading to where they led or to what is reached
  changed-agrees : (birth : ℕ) (change : Object → Object)
      → ((object : Object) (field target : ℕ) → get_or (change object).references field None ≡ Some target → (get_or object.references field None ≡ Some target) ⊎ Reachable world target)
      → Reachable world birth → Agrees (with_change view (Some birth) change) (with_change world (Some birth) change)
  changed-agrees birth change keeps at_birth = go (from_some (object_at view birth) (agrees.reached birth at_birth))
    where
      go : (x : Object) × (object_at view birth ≡ Some x) → Agrees (with_change view (Some birth) change) (with_change world (Some birth) change)
      go (x, e) =
          let in_world = agrees.objects birth x e in
          let new_view = changed view.objects birth change x e in
          let new_world = changed world.objects birth change x in_world in
          record {
            config = agrees.config;
            next_birth = length-set view.objects birth (option_map change (object_at view birth)) ∙ agrees.next_birth ∙ sym (length-set world.objects birth (option_map change (object_at world birth)));
            slots = agrees.slots;
            ended = agrees.ended;
            objects = λ other o h. elim (cases_eq other birth) [
              | inl k ↦ rw k (new_world ∙ sym new_view ∙ (rw k at h))
              | inr d ↦ get_or-set_other world.objects birth other _ None d ∙ agrees.objects other o (sym (get_or-set_other view.objects birth other _ None d) ∙ h)
            ];
            reached = λ other path. elim (cases_eq other birth) [
              | inl k ↦ rw k (to_some _ (change x) new_view)
              | inr d ↦
                  let before : Reachable world other = Reachable-in (with_change world (Some birth) change) (Reachable world) (λ slot b h. ([], (slot, h))) (along x in_world new_world) path.0 other path.1 in
                  rw (get_or-set_other view.objects birth other _ None d) (agrees.reached other before)
            ];
          }
        where
          along : (x : Object) → object_at world birth ≡ Some x → object_at (with_change world (Some birth) change) birth ≡ Some (change x)
              → (near target : ℕ) → Reachable world near → Refers (with_change world (Some birth) change) near target → Reachable world target
          along x in_world new_world near target before (field, h) = elim (cases_eq near birth) [
            | inl k ↦ elim (keeps x field target (ap (λ o. reference_of o field) (sym new_world ∙ ap (object_at (with_change world (Some birth) change)) (sym k)) ∙ h)) [
              | inl q ↦ (birth ∷ at_birth.0, ((field, ap (λ o. reference_of o field) in_world ∙ q), at_birth.1))
              | inr r ↦ r
            ]
            | inr n ↦ (near ∷ before.0, ((field, ap (λ o. reference_of o field) (sym (get_or-set_other world.objects birth near _ None n)) ∙ h), before.1))
          ]

  -- the same through a slot, which may be empty
  with_change-agrees : (slot : ℕ) (change change' : Object → Object) → ((object : Object) → change object ≡ change' object)
      → ((object : Object) (field target : ℕ) → get_or (change' object).references field None ≡ Some target → (get_or object.references field None ≡ Some target) ⊎ Reachable world target)
      → Agrees (with_change view (slot_at view slot) change) (with_change world (slot_at world slot) change')
  with_change-agrees slot change change' same keeps = rw (slot_at-same slot, fun_ext same) (go (slot_at world slot) refl)
    where
      go : (name : Option ℕ) → slot_at world slot ≡ name → Agrees (with_change view name change') (with_change world name change')
      go None e = agrees
      go (Some birth) e = changed-agrees birth change' keeps ([], (slot, e))

  -- a new object, which refers to nothing, named by a slot
  with_object-agrees : (slot : ℕ) (object : Object) → ((field target : ℕ) → get_or object.references field None ≡ Some target → ⊥) → Agrees (with_object view slot object) (with_object world slot object)
  with_object-agrees slot object nothing = record {
    config = agrees.config;
    next_birth = length_push view.objects (Some object) ∙ ap (λ n. n + 1) agrees.next_birth ∙ sym (length_push world.objects (Some object));
    slots = ap₂ (λ slots n. set slots slot (Some n)) agrees.slots agrees.next_birth;
    ended = agrees.ended;
    objects = λ birth x h. grind (arith, push-either, push-old, push-new);
    reached = λ birth path. elim (cases_eq birth (length world.objects)) [
      | inl k ↦ rw (k, ← agrees.next_birth) (to_some _ object (push-new view.objects object))
      | inr d ↦ elim (Reachable-in (with_object world slot object) (λ b. Reachable world b ⊎ (b ≡ length world.objects)) named along path.0 birth path.1) [
        | inl q ↦ let (x, e) = from_some (object_at view birth) (agrees.reached birth q) in to_some _ x (push-old view.objects object birth x e)
        | inr k ↦ absurd (d k)
      ]
    ];
  }
    where
      named : (other birth : ℕ) → slot_at (with_object world slot object) other ≡ Some birth → Reachable world birth ⊎ (birth ≡ length world.objects)
      named other birth h = grind (arith, get_or-set_either world.slots slot other (Some (length world.objects)) None (Some birth) h)

      along : (near target : ℕ) → Reachable world near ⊎ (near ≡ length world.objects) → Refers (with_object world slot object) near target → Reachable world target ⊎ (target ≡ length world.objects)
      along near target q (field, h) =
          let (x, ex, ef) = reference_of-object (object_at (with_object world slot object) near) field target h in
          elim (push-either world.objects object near x ex) [
            | inl k ↦ elim q [
              | inl before ↦ inl (near ∷ before.0, ((field, ap (λ y. reference_of y field) k ∙ ef), before.1))
              | inr l ↦ absurd (omega (arith, below_length world.objects near x k))
            ]
            | inr k ↦ absurd (nothing field target (ap (λ y. get_or y.references field None) k.1 ∙ ef))
          ]

-- slots that are emptied
abbrev with_slots : World → List (Option ℕ) → World
with_slots world slots = record world { slots = slots }

cleared-agrees : (count slot : ℕ) (view world : World) → Agrees view world → Agrees (with_slots view (cleared view.slots slot count)) (with_slots world (cleared world.slots slot count))
cleared-agrees zero slot view world agrees = agrees
cleared-agrees (suc count) slot view world agrees = cleared-agrees count (suc slot) (with_slot view slot None) (with_slot world slot None) (with_slot-agrees view world agrees slot None None refl (λ birth e. absurd (none-some birth e)))

no_references : (count field target : ℕ) → get_or (replicate count None) field None ≡ Some target → ⊥
no_references (suc count) (suc field) target e = no_references count field target e
no_references count field target e = none-some target e

-- One command ------------------------------------------------------------------------------------

module _ (view world : World) (agrees : Agrees view world) where
  -- what a slot names is reached, and so is what its object refers to
  slot-reached : (slot birth : ℕ) → slot_at world slot ≡ Some birth → Reachable world birth
  slot-reached slot birth e = ([], (slot, e))

  reference-reached : (slot field birth : ℕ) → reference_of (object_in world slot) field ≡ Some birth → Reachable world birth
  reference-reached slot field birth h = go (slot_at world slot) refl h
    where
      go : (name : Option ℕ) → slot_at world slot ≡ name → reference_of (object_named world name) field ≡ Some birth → Reachable world birth
      go None e k = absurd (none-some birth k)
      go (Some near) e k = (near ∷ [], ((field, k), (slot, e)))

  put-keeps : (value field : ℕ) (object : Object) (other target : ℕ) → get_or (with_reference field (slot_at world value) object).references other None ≡ Some target → (get_or object.references other None ≡ Some target) ⊎ Reachable world target
  put-keeps value field object other target e = elim (get_or-set_either object.references field other (slot_at world value) None (Some target) e) [ inl k ↦ inr (slot-reached value target k) | inr k ↦ inl k ]

  effect-agrees : (who : ℕ) (command : Command) → Agrees (effect view who command).state (effect world who command).state
  effect-agrees who (Command.New slot references numbers) = search (arith, with_object-agrees, no_references)
  effect-agrees who (Command.Get slot source field) = with_slot-agrees view world agrees (own_slot who slot) _ _ (ap (λ o. reference_of o field) (object_in-same view world agrees (own_slot who source))) (reference-reached (own_slot who source) field)
  effect-agrees who (Command.Put slot field value) = grind (arith, slot_at-same, with_change-agrees, put-keeps)
  effect-agrees who (Command.Copy slot source) = search (arith, with_slot-agrees, slot_at-same, slot-reached)
  effect-agrees who (Command.Clear slot) = with_slot-agrees view world agrees (own_slot who slot) None None refl (λ birth e. absurd (none-some birth e))
  effect-agrees who (Command.Write slot index number) = grind (arith, with_change-agrees)
  effect-agrees who (Command.Post board slot) = search (arith, with_slot-agrees, slot_at-same, slot-reached)
  effect-agrees who (Command.Take slot board) = search (arith, with_slot-agrees, slot_at-same, slot-reached)
  effect-agrees who Command.End = grind (arith, cleared-agrees 16 (own_slot who 0) view world agrees)
  effect-agrees who other = agrees

  effect-reply : (who : ℕ) (command : Command) → (effect view who command).reply ≡ (effect world who command).reply
  effect-reply who asked = grind (arith, object_in-same, slot_at-same)

  -- A command that may be refused for want of a place keeps agreement
  pub heap_step-agrees : (is_full : ℕ → ℕ → Bool) (who : ℕ) (command : Command) → Agrees (heap_step is_full view who command).state (heap_step is_full world who command).state
  unfolding heap_step
  heap_step-agrees is_full who command = grind (arith, refusal-same, effect-agrees)

  -- and it is answered as it is in the world
  pub heap_step-reply : (is_full : ℕ → ℕ → Bool) (who : ℕ) (command : Command) → (heap_step is_full view who command).reply ≡ (heap_step is_full world who command).reply
  unfolding heap_step
  heap_step-reply is_full who command = grind (arith, refusal-same, effect-reply)
