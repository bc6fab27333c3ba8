-- What keeps a world closed.
use Rattle.std.proofs.Common.{arith, ◌≡◌, ℕ, zero, suc, ◌⊎◌, inl, inr, refl, ⊎_elim, Option, Some, None, List, [], ◌∷◌, ◌++◌, length, set, get_or, IsSome}
use Rattle.mh_model.specs.World.{Object, World, IsClosed, object_at, object_named, reference_of, with_slot, cleared}

-- what stands in a list with one place written: what was written, or what stood there
pub at_set : (items : List (Option ℕ)) (place at : ℕ) (new : Option ℕ) (item : ℕ) → get_or (set items place new) at None ≡ Some item
    → (new ≡ Some item) ⊎ (get_or items at None ≡ Some item)
at_set [] place at new item is = inr is
at_set (x ∷ xs) zero zero new item is = inl is
at_set (x ∷ xs) zero (suc at) new item is = inr is
at_set (x ∷ xs) (suc place) zero new item is = inr is
at_set (x ∷ xs) (suc place) (suc at) new item is = at_set xs place at new item is

-- what was there is there still, if one is exchanged and if one is added
there_set : (objects : List (Option Object)) (birth at : ℕ) (new : Object) → IsSome (get_or objects at None) → IsSome (get_or (set objects birth (Some new)) at None)
there_set [] birth at new there = there
there_set (x ∷ xs) zero zero new there = refl
there_set (x ∷ xs) zero (suc at) new there = there
there_set (x ∷ xs) (suc birth) zero new there = there
there_set (x ∷ xs) (suc birth) (suc at) new there = there_set xs birth at new there

there_push : (objects : List (Option Object)) (at : ℕ) (new : Object) → IsSome (get_or objects at None) → IsSome (get_or (objects ++ Some new ∷ []) at None)
there_push [] at new there = cc
there_push (x ∷ xs) zero new there = there
there_push (x ∷ xs) (suc at) new there = there_push xs at new there

pub there_last : (objects : List (Option Object)) (new : Object) → IsSome (get_or (objects ++ Some new ∷ []) (length objects) None)
there_last [] new = refl
there_last (x ∷ xs) new = there_last xs new

-- what a reference names there: what one of the new object names, or what one named before
names_set : (objects : List (Option Object)) (birth at : ℕ) (new : Object) (field target : ℕ) → reference_of (get_or (set objects birth (Some new)) at None) field ≡ Some target
    → (get_or new.references field None ≡ Some target) ⊎ (reference_of (get_or objects at None) field ≡ Some target)
names_set [] birth at new field target is = inr is
names_set (x ∷ xs) zero zero new field target is = inl is
names_set (x ∷ xs) zero (suc at) new field target is = inr is
names_set (x ∷ xs) (suc birth) zero new field target is = inr is
names_set (x ∷ xs) (suc birth) (suc at) new field target is = names_set xs birth at new field target is

names_push : (objects : List (Option Object)) (at : ℕ) (new : Object) (field target : ℕ) → reference_of (get_or (objects ++ Some new ∷ []) at None) field ≡ Some target
    → (get_or new.references field None ≡ Some target) ⊎ (reference_of (get_or objects at None) field ≡ Some target)
names_push [] zero new field target is = inl is
names_push [] (suc at) new field target is = inr is
names_push (x ∷ xs) zero new field target is = inr is
names_push (x ∷ xs) (suc at) new field target is = names_push xs at new field target is

-- a reference of a named object names what is there
pub named_there : (world : World) (name : Option ℕ) (field target : ℕ) → IsClosed world → reference_of (object_named world name) field ≡ Some target → IsSome (object_at world target)
named_there world None field target closed is = cc
named_there world (Some birth) field target closed is = closed.references birth field target is

-- A slot that names what is there
pub closed_slot : (world : World) (slot : ℕ) (name : Option ℕ) → IsClosed world → ((birth : ℕ) → name ≡ Some birth → IsSome (object_at world birth)) → IsClosed (with_slot world slot name)
closed_slot world slot name closed there = grind (arith, at_set)

-- an object whose references name what is there, in the place of one
pub closed_exchanged : (world : World) (birth : ℕ) (new : Object) → IsClosed world → ((field target : ℕ) → get_or new.references field None ≡ Some target → IsSome (object_at world target))
    → IsClosed (record world { objects = set world.objects birth (Some new) })
closed_exchanged world birth new closed there = grind (arith, there_set, names_set)

-- one more object, whose references are null
pub closed_added : (world : World) (new : Object) → IsClosed world → ((field : ℕ) → get_or new.references field None ≡ None) → IsClosed (record world { objects = world.objects ++ Some new ∷ [] })
closed_added world new closed null = grind (arith, there_push, names_push)

-- emptied slots name nothing new
at_cleared : (slots : List (Option ℕ)) (slot n at birth : ℕ) → get_or (cleared slots slot n) at None ≡ Some birth → get_or slots at None ≡ Some birth
at_cleared slots slot zero at birth is = is
at_cleared slots slot (suc n) at birth is =
    ⊎_elim (λ new. cc) (λ old. old) (at_set slots slot at None birth (at_cleared (set slots slot None) (suc slot) n at birth is))

pub closed_cleared : (world : World) (slot n : ℕ) (ended : _) → IsClosed world → IsClosed (record world { slots = cleared world.slots slot n; ended = ended })
closed_cleared world slot n ended closed = grind (arith, at_cleared)
