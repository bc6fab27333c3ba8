-- What a heap that keeps every object shows, and that it stays closed.
use Rattle.std.proofs.Common.{◌≡◌, ℕ, zero, suc, ◌+◌, ◌-◌, ◌<◌, Bool, Option, Some, None, List, [], ◌∷◌, ◌++◌, length, map, set, get_or, replicate, IsSome, if◌then◌else◌, true, false, option_map, refl, sym, ◌∙◌, subst, ⊎_elim, arith, add-one}
use Rattle.std.proofs.{lemmas.List.{get_or-map, map-set, map_push, length-map}, lemmas.Option.same_Some}
use Rattle.mh_model.specs.declared.config.Config.{Config}
use Rattle.mh_model.specs.World.{Object, World, IsClosed, reference_of, slot_at, object_in, blank, with_reference, with_number, cleared}
use Rattle.mh_model.specs.Limits.{root_slots}
use Rattle.mh_heap.specs.PlainWorld.{plain_world}
use Rattle.mh_table_laws.proofs.Lists.{there_below}
use Rattle.mh_heap.proofs.ClosedLemmas.{named_there, closed_slot, closed_exchanged, closed_added, there_last, at_set}

-- a birth that a slot names is below the count of births
pub named_below : (config : Config) (objects : List Object) (slots : List (Option ℕ)) (ended : List Bool) (slot birth : ℕ) → IsClosed (plain_world config objects slots ended) → get_or slots slot None ≡ Some birth
    → birth < length (map Some objects)
named_below config objects slots ended slot birth closed is = there_below (map Some objects) birth (closed.slots slot birth is)

-- an object by its birth
pub shown_at : (objects : List Object) (birth : ℕ) (object : Object) → birth < length (map Some objects) → object ≡ get_or objects birth object → get_or (map Some objects) birth None ≡ Some object
shown_at objects birth object below is = grind (arith, length-map, get_or-map)

-- one object changed
pub map_change : (objects : List Object) (birth : ℕ) (change : Object → Object) (object : Object) → birth < length (map Some objects) → object ≡ get_or objects birth object
    → map Some (set objects birth (change object)) ≡ set (map Some objects) birth (option_map change (get_or (map Some objects) birth None))
map_change objects birth change object below is = rw (shown_at objects birth object below is) (map-set Some objects birth (change object))

-- A heap with no object
names_nothing : (n slot birth : ℕ) → get_or (replicate n None) slot None ≡ Some birth → IsSome {T = Object} None
names_nothing zero slot birth is = cc
names_nothing (suc n) zero birth is = cc
names_nothing (suc n) (suc slot) birth is = names_nothing n slot birth is

pub closed_first : (config : Config) (objects : List Object) (ended : List Bool) → objects ≡ [] → IsClosed (plain_world config objects (replicate root_slots None) ended)
closed_first config objects ended none = rw none (record {
  slots = λ slot birth is. names_nothing root_slots slot birth is;
  references = λ birth field target is. cc;
})

-- A slot that names what a reference named
pub closed_got : (config : Config) (objects : List Object) (slots : List (Option ℕ)) (ended : List Bool) (slot source field : ℕ) (object : Object) (name : Option ℕ)
    → IsClosed (plain_world config objects slots ended) → object_in (plain_world config objects slots ended) source ≡ Some object → name ≡ get_or object.references field None
    → IsClosed (plain_world config objects (set slots slot name) ended)
closed_got config objects slots ended slot source field object name closed shown read =
    let world : World = plain_world config objects slots ended in
    closed_slot world slot name closed (λ birth is. named_there world (slot_at world source) field birth closed
    (subst (λ (o : Option Object). reference_of o field ≡ Some birth) (sym shown) (sym read ∙ is)))

-- A number written
pub closed_number : (config : Config) (objects : List Object) (slots : List (Option ℕ)) (ended : List Bool) (birth index number : ℕ) (old new : Object)
    → IsClosed (plain_world config objects slots ended) → birth < length (map Some objects) → old ≡ get_or objects birth old → new ≡ with_number index number old
    → IsClosed (plain_world config (set objects birth new) slots ended)
closed_number config objects slots ended birth index number old new closed below read is =
    let world : World = plain_world config objects slots ended in
    rw (map-set Some objects birth new) (closed_exchanged world birth new closed (λ field target names. closed.references birth field target
    (subst (λ (o : Option Object). reference_of o field ≡ Some target) (sym (shown_at objects birth old below read)) (rw is at names))))

-- A reference written
pub closed_reference : (config : Config) (objects : List Object) (slots : List (Option ℕ)) (ended : List Bool) (birth field value : ℕ) (name : Option ℕ) (old new : Object)
    → IsClosed (plain_world config objects slots ended) → birth < length (map Some objects) → old ≡ get_or objects birth old → new ≡ with_reference field name old → name ≡ get_or slots value None
    → IsClosed (plain_world config (set objects birth new) slots ended)
closed_reference config objects slots ended birth field value name old new closed below read is named =
    let world : World = plain_world config objects slots ended in
    rw (map-set Some objects birth new) (closed_exchanged world birth new closed (λ at target names. ⊎_elim
    (λ written. closed.slots value target (sym named ∙ written))
    (λ stood. closed.references birth at target (subst (λ (o : Option Object). reference_of o at ≡ Some target) (sym (shown_at objects birth old below read)) stood))
    (at_set old.references field at name target (rw is at names))))

-- One more object, and the slot that names it
null_blank : (n field : ℕ) → get_or (replicate {A = Option ℕ} n None) field None ≡ None
null_blank zero field = refl
null_blank (suc n) zero = refl
null_blank (suc n) (suc field) = null_blank n field

pub closed_pushed : (config : Config) (objects items : List Object) (slots : List (Option ℕ)) (ended : List Bool) (pushed : Bool) (object : Object) (references numbers : ℕ)
    → IsClosed (plain_world config objects slots ended) → object ≡ blank references numbers → items ≡ (if pushed then objects ++ object ∷ [] else objects) → IsClosed (plain_world config items slots ended)
closed_pushed config objects items slots ended false object references numbers closed is all = rw all closed
closed_pushed config objects items slots ended true object references numbers closed is all =
    rw (all, map_push Some objects object, is) (closed_added (plain_world config objects slots ended) (blank references numbers) closed (null_blank references))

pub closed_made : (config : Config) (objects items : List Object) (slots : List (Option ℕ)) (ended : List Bool) (slot birth : ℕ) (object : Object) (references numbers : ℕ)
    → IsClosed (plain_world config objects slots ended) → object ≡ blank references numbers → items ≡ objects ++ object ∷ [] → birth ≡ length objects
    → IsClosed (plain_world config items (set slots slot (Some birth)) ended)
closed_made config objects items slots ended slot birth object references numbers closed is all last =
    let pushed : IsClosed (plain_world config items slots ended) = closed_pushed config objects items slots ended true object references numbers closed is all in
    let there : IsSome (get_or (map Some items) birth None) = rw (all, map_push Some objects object, last, ← length-map objects Some) (there_last (map Some objects) object) in
    closed_slot (plain_world config items slots ended) slot (Some birth) pushed
    (λ other same. let e : birth ≡ other = same_Some _ _ same in subst (λ (b : ℕ). IsSome (get_or (map Some items) b None)) e there)

-- one slot emptied, and the rest still to be emptied
pub cleared_more : (slots : List (Option ℕ)) (slot end : ℕ) → slot < end → cleared slots slot (end - slot) ≡ cleared (set slots slot None) (slot + 1) (end - (slot + 1))
cleared_more slots slot end below = grind (arith, add-one)
