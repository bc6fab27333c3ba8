-- Objects of one part, and of many whose parts are made and linked.
use Rattle.std.proofs.Common.{◌≡◌, ℕ, zero, suc, ◌≤◌, ◌⊎◌, inl, inr, List, [], ◌∷◌, ◌++◌, length, get_or, set, take, slice_get, Option, Some, None, option_map, option_and_then, refl, sym, ap, ◌∙◌, subst, arith}
use Rattle.std.proofs.lemmas.Option.{none-some, same_Some, slice_get_within}
use Rattle.std.proofs.lemmas.List.{get_or-take, get_or_append_left}
use Rattle.mh_model.specs.Classes.{Part, class_of, part_words}
use Rattle.mh_model.specs.Pages.{Table, block_at, least_place, with_block, with_taken}
use Rattle.mh_model.specs.Table.{Block, Made, MadeParts, new_block, made_in_class, made_part, with_block_change, linked_block, group_of, made_group, words_of}
use Rattle.mh_groups.specs.Auxiliary.{AreUnlinked}
use Rattle.mh_groups.proofs.MadeLemmas.{made_parts-more, made_parts-none}
use Rattle.mh_table_laws.proofs.placing.Places.{with_block-self}

-- What is read if something was written is that, or nothing past the end ------------------------

set_read : {X : Type 0} (xs : List (Option X)) (i : ℕ) (x : Option X) → (get_or (set xs i x) i None ≡ x) ⊎ (get_or (set xs i x) i None ≡ None)
set_read [] i x = inr refl
set_read (y ∷ xs) zero x = inl refl
set_read (y ∷ xs) (suc i) x = set_read xs i x

taken_read : (table : Table Block) (size place : ℕ) (block : Block) → (block_at (with_taken table size place block) place ≡ Some block) ⊎ (block_at (with_taken table size place block) place ≡ None)
taken_read table size place block = grind (arith, set_read, inl, inr)

-- One part ---------------------------------------------------------------------------------------

-- a part without children is made with its references
unlinked_taken : (table : Table Block) (birth stamp index size place : ℕ) (part : Part) (all : List ℕ) → part.children ≡ None
    → with_block_change (with_taken table size place (new_block birth stamp index part)) place (linked_block all part) ≡ with_taken table size place (new_block birth stamp index part)
unlinked_taken table birth stamp index size place part all none = ap (with_block new place) (same (block_at new place) (taken_read table size place block)) ∙ with_block-self new place
  where
    block : Block
    block = new_block birth stamp index part

    new : Table Block
    new = with_taken table size place block

    linked : linked_block all part block ≡ block
    linked = ap (λ references. record block { references = references }) (ap (words_of all part.references) none)

    same : (content : Option Block) → (content ≡ Some block) ⊎ (content ≡ None) → option_map (linked_block all part) content ≡ content
    same content (inl some) = ap (option_map (linked_block all part)) some ∙ ap Some linked ∙ sym some
    same content (inr nothing) = ap (option_map (linked_block all part)) nothing ∙ sym nothing

-- a part that is made stands in such a table
made_part-linked : (table : Table Block) (birth stamp index : ℕ) (part : Part) (made : Made) (all : List ℕ) → part.children ≡ None → made_part table birth stamp index part ≡ Some made → with_block_change made.table made.place (linked_block all part) ≡ made.table
made_part-linked table birth stamp index part made all none e = by_class (class_of (part_words part)) e
  where
    by_place : (size : ℕ) (place : Option ℕ) → option_map (λ p. record { place = p; table = with_taken table size p (new_block birth stamp index part) }) place ≡ Some made → with_block_change made.table made.place (linked_block all part) ≡ made.table
    by_place size None h = absurd (none-some made h)
    by_place size (Some p) h =
        subst (λ (m : Made). with_block_change m.table m.place (linked_block all part) ≡ m.table) (same_Some (record { place = p; table = with_taken table size p (new_block birth stamp index part) }) made h)
        (unlinked_taken table birth stamp index size p part all none)

    by_class : (size : Option ℕ) → option_and_then (made_in_class table (new_block birth stamp index part)) size ≡ Some made → with_block_change made.table made.place (linked_block all part) ≡ made.table
    by_class None h = absurd (none-some made h)
    by_class (Some size) h = by_place size (least_place table size) h

pub one_group : (table : Table Block) (birth stamp : ℕ) (list : List Part) (part : Part) (made : Made) → slice_get list 0 ≡ Some part → length list ≡ 1 → part.children ≡ None → made_part table birth stamp 0 part ≡ Some made → made_group table birth stamp list ≡ Some made
one_group table birth stamp [] part made at one none e = absurd (none-some part at)
one_group table birth stamp (first ∷ second ∷ list) part made at one none e = absurd (omega arith)
one_group table birth stamp (first ∷ []) part made at one none e =
    ap (λ p. made_group table birth stamp (p ∷ [])) (same_Some first part at)
    ∙ ap (option_and_then (λ (m : MadeParts). group_of m.table m.places (part ∷ []))) (made_parts-more table birth stamp 0 part [] made e)
    ∙ ap (λ t. Some (record { place = made.place; table = t })) (made_part-linked table birth stamp 0 part made (made.place ∷ []) none e)

pub no_group : (table : Table Block) (birth stamp : ℕ) (list : List Part) (part : Part) → slice_get list 0 ≡ Some part → length list ≡ 1 → made_part table birth stamp 0 part ≡ None → made_group table birth stamp list ≡ None
no_group table birth stamp [] part at one e = absurd (none-some part at)
no_group table birth stamp (first ∷ second ∷ list) part at one e = absurd (omega arith)
no_group table birth stamp (first ∷ []) part at one e = grind (arith, same_Some, made_parts-none)

-- Many parts -------------------------------------------------------------------------------------

-- parts at the first of these places are at those in front of them
pub unlinked-front : (table : Table Block) (places rest all : List ℕ) (list : List Part) (size count : ℕ) → all ≡ take size (places ++ rest) → length list ≤ size → length list ≤ count → length list ≤ length places → AreUnlinked table places list 0 → AreUnlinked table (take count all) list 0
unlinked-front table places rest all list size count is many many' enough unlinked number part least at = grind (arith, slice_get_within, get_or-take, get_or_append_left)
