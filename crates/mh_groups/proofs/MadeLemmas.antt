-- Parts made one after the other: what is left to be made, and how those that are made are taken back.
use Rattle.std.proofs.Common.{unwrap_or, replicate, ◌≡◌, ◌≢◌, ℕ, zero, suc, ◌<◌, ◌≤◌, Bool, true, false, inl, inr, List, [], ◌∷◌, ◌++◌, length, get_or, set, take, drop, slice_get, Option, Some, None, is_none, option_map, refl, sym, ap, ◌∙◌, arith}
use Rattle.std.proofs.{Math.Seq.{take-suc-set, take-length, drop-length}, lemmas.Bool.{cases_eq, false≢true}}
use Rattle.std.proofs.lemmas.Option.{none-some, same_Some, slice_get_within}
use Rattle.std.proofs.lemmas.List.{get_or-set_same, get_or-set_other, append_assoc, append-nil, length-replicate}
use Rattle.mh_table_laws.proofs.{objects.RefusedObjects.none-part, Lists.to_some}
use Rattle.mh_table_laws.proofs.placing.Places.{taken_page, block_at-with_taken_same, block_at-with_taken_there, with_released-with_taken}
use Rattle.mh_model.specs.Classes.{Part, class_of, part_words, slots_in}
use Rattle.mh_model.specs.Pages.{Page, Table, page_number, page_at, block_at, class_at, least_place, with_taken, with_released, IsFreeFor, slot_number, block_count, live_in, count_at, page_with, page_for}
use Rattle.mh_model.specs.{Table.{Block, Made, MadeParts, new_block, made_part, made_parts}, declared.deed.Deed.Deed}
use Rattle.mh_model.specs.Deeds.{made_deed, make_deeds}
use Rattle.mh_groups.specs.Auxiliary.{without_parts, CanBeUnmade, AllCanBeUnmade, AreUnlinked, placed_deeds}
use Rattle.mh_groups.proofs.TellLemmas.{deeds-more, make_deeds-more}

-- Lists ------------------------------------------------------------------------------------------

pub drop-slice : {X : Type 0} (xs : List X) (i : ℕ) (x : X) → slice_get xs i ≡ Some x → drop i xs ≡ x ∷ drop (suc i) xs
drop-slice [] i x e = absurd (none-some x e)
drop-slice (y ∷ xs) zero x e = ap (λ z. z ∷ xs) (same_Some y x e)
drop-slice (y ∷ xs) (suc i) x e = drop-slice xs i x e

-- What is written past so many places changes none of them ---------------------------------------

pub without_parts-set : (count : ℕ) (table : Table Block) (places : List ℕ) (fresh : List Bool) (at place : ℕ) (is_fresh : Bool) → count ≤ at → without_parts table (set places at place) (set fresh at is_fresh) count ≡ without_parts table places fresh count
without_parts-set zero table places fresh at place is_fresh past = refl
without_parts-set (suc count) table places fresh at place is_fresh past =
    let apart : count ≢ at = λ same. absurd (omega arith) in
    rw (get_or-set_other places at count place 0 apart, get_or-set_other fresh at count is_fresh false apart) (without_parts-set count _ places fresh at place is_fresh (omega arith))

pub all_can_be_unmade-set : (count : ℕ) (table : Table Block) (places : List ℕ) (fresh : List Bool) (at place : ℕ) (is_fresh : Bool) → count ≤ at → AllCanBeUnmade table places fresh count → AllCanBeUnmade table (set places at place) (set fresh at is_fresh) count
all_can_be_unmade-set zero table places fresh at place is_fresh past can = tt
all_can_be_unmade-set (suc count) table places fresh at place is_fresh past can =
    let apart : count ≢ at = λ same. absurd (omega arith) in
    rw (get_or-set_other places at count place 0 apart, get_or-set_other fresh at count is_fresh false apart) (can.0, all_can_be_unmade-set count _ places fresh at place is_fresh (omega arith) can.1)

-- A block in a fresh page -------------------------------------------------------------------------

no_block : (X : Type 0) (count : ℕ) → block_count {X = X} (replicate count None) ≡ 0
no_block X zero = refl
no_block X (suc count) = no_block X count

module _ {X : Type 0} where
  one_block : (count slot : ℕ) (block : X) → slot < count → block_count (set (replicate count None) slot (Some block)) ≡ 1
  one_block zero slot block within = absurd (omega arith)
  one_block (suc count) zero block within = ap suc (no_block X count)
  one_block (suc count) (suc slot) block within = one_block count slot block (omega arith)

  -- a block put in a page that was free is alone there
  count_at-fresh : (table : Table X) (size place : ℕ) (block : X) → IsFreeFor table size place → page_at table (page_number place) ≡ None → count_at (with_taken table size place block) (page_number place) ≡ 1
  count_at-fresh table size place block free at =
      let written : page_at (with_taken table size place block) (page_number place) ≡ Some (page_with (slot_number place) (Some block) (page_for size (page_at table (page_number place)))) = taken_page table size place block free in
      ap (λ page. unwrap_or (option_map live_in page) 0) written ∙ go (page_at table (page_number place)) at free.within
    where
      go : (content : Option (Page X)) → content ≡ None → slot_number place < length (page_for size content).slots → live_in (page_with (slot_number place) (Some block) (page_for size content)) ≡ 1
      go None is within = one_block (slots_in size) (slot_number place) block (omega (arith, length-replicate {A = Option X} (slots_in size) None))
      go (Some page) is within = absurd (none-some page (sym is))

-- One part more ----------------------------------------------------------------------------------

-- a page is free exactly when it has no class
class-none : (content : Option (Page Block)) → is_none (option_map (λ (page : Page Block). page.class_size) content) ≡ is_none content
class-none None = refl
class-none (Some page) = refl

free_page : (content : Option (Page Block)) → is_none content ≡ true → content ≡ None
free_page None e = refl
free_page (Some page) e = absurd (false≢true e)

module _ (table : Table Block) (size place : ℕ) (block : Block) (free : IsFreeFor table size place) (is_fresh : Bool) (fresh_is : is_fresh ≡ is_none (class_at table (page_number place))) where
  fresh_page : is_fresh ≡ is_none (page_at table (page_number place))
  fresh_page = fresh_is ∙ class-none (page_at table (page_number place))

  pub taken_back : with_released (with_taken table size place block) place is_fresh ≡ table
  taken_back = ap (with_released (with_taken table size place block) place) fresh_page ∙ with_released-with_taken table size place block free.empty

  pub can_be_unmade : CanBeUnmade (with_taken table size place block) place is_fresh
  can_be_unmade = grind (arith, to_some, block_at-with_taken_same, count_at-fresh, free_page, fresh_page)

  pub without_one_more : (places : List ℕ) (fresh : List Bool) (count : ℕ) → count < length places → count < length fresh
      → without_parts (with_taken table size place block) (set places count place) (set fresh count is_fresh) (suc count) ≡ without_parts table places fresh count
  without_one_more places fresh count room room' = grind (arith, get_or-set_same, taken_back, without_parts-set)

  pub one_more_can_be_unmade : (places : List ℕ) (fresh : List Bool) (count : ℕ) → count < length places → count < length fresh → AllCanBeUnmade table places fresh count
      → AllCanBeUnmade (with_taken table size place block) (set places count place) (set fresh count is_fresh) (suc count)
  one_more_can_be_unmade places fresh count room room' can = grind (arith, get_or-set_same, taken_back, can_be_unmade, all_can_be_unmade-set)

-- What is left to be made ------------------------------------------------------------------------

-- parts that are made after others at these places
abbrev pub made_after : List ℕ → MadeParts → MadeParts
made_after places made = record { places = places ++ made.places; table = made.table }

made_after-twice : (places : List ℕ) (place : ℕ) (rest : Option MadeParts)
    → option_map (made_after places) (option_map (λ (made : MadeParts). record { places = place ∷ made.places; table = made.table }) rest) ≡ option_map (made_after (places ++ place ∷ [])) rest
made_after-twice places place None = refl
made_after-twice places place (Some made) = ap (λ all. Some (record { places = all; table = made.table })) (sym (append_assoc places (place ∷ []) made.places))

-- a part made, and then those after it
pub made_parts-more : (table : Table Block) (birth stamp index : ℕ) (part : Part) (parts : List Part) (made : Made) → made_part table birth stamp index part ≡ Some made
    → made_parts table birth stamp index (part ∷ parts) ≡ option_map (λ (rest : MadeParts). record { places = made.place ∷ rest.places; table = rest.table }) (made_parts made.table birth stamp (suc index) parts)
made_parts-more table birth stamp index part parts made e = grind arith

pub made_parts-none : (table : Table Block) (birth stamp index : ℕ) (part : Part) (parts : List Part) → made_part table birth stamp index part ≡ None → made_parts table birth stamp index (part ∷ parts) ≡ None
made_parts-none table birth stamp index part parts e = grind arith

-- a part whose class has a least place
pub made_part-at : (table : Table Block) (birth stamp index size place : ℕ) (part : Part) → class_of (part_words part) ≡ Some size → least_place table size ≡ Some place
    → made_part table birth stamp index part ≡ Some (record { place = place; table = with_taken table size place (new_block birth stamp index part) })
made_part-at table birth stamp index size place part class least = grind arith

-- So many parts of an object are made: what is left of the model's making, and how to take them back
pub record AreMadeSoFar (old : Table Block) (birth stamp : ℕ) (list : List Part) (table : Table Block) (places : List ℕ) (fresh : List Bool) (count : ℕ) : Type 0 where
  pub told : make_deeds old birth stamp 0 list ≡ placed_deeds table birth places fresh 0 (take count list) ++ make_deeds table birth stamp count (drop count list)
  pub left : made_parts old birth stamp 0 list ≡ option_map (made_after (take count places)) (made_parts table birth stamp count (drop count list))
  pub back : without_parts table places fresh count ≡ old
  pub can : AllCanBeUnmade table places fresh count
  pub born : (number : ℕ) (part : Part) → number < count → slice_get list number ≡ Some part → block_at table (get_or places number 0) ≡ Some (new_block birth stamp number part)

pub one_so_far : (old : Table Block) (birth stamp : ℕ) (list : List Part) (table : Table Block) (places : List ℕ) (fresh : List Bool) (count : ℕ) (part : Part) (size place : ℕ) (is_fresh : Bool) → AreMadeSoFar old birth stamp list table places fresh count
    → count < length places → count < length fresh → slice_get list count ≡ Some part → class_of (part_words part) ≡ Some size → least_place table size ≡ Some place → IsFreeFor table size place → is_fresh ≡ is_none (class_at table (page_number place))
    → AreMadeSoFar old birth stamp list (with_taken table size place (new_block birth stamp count part)) (set places count place) (set fresh count is_fresh) (suc count)
one_so_far old birth stamp list table places fresh count part size place is_fresh so_far room room' at class least free fresh_is = record {
  told =
      so_far.told
      ∙ ap (λ parts. told ++ make_deeds table birth stamp count parts) (drop-slice list count part at)
      ∙ ap (λ deeds. told ++ deeds) (make_deeds-more table birth stamp count part (drop (suc count) list) made (made_part-at table birth stamp count size place part class least))
      ∙ sym (append_assoc told (here ∷ []) (make_deeds made.table birth stamp (suc count) (drop (suc count) list)))
      ∙ ap (λ deeds. deeds ++ make_deeds made.table birth stamp (suc count) (drop (suc count) list)) (sym (deeds-more table birth size place block places fresh list count part is_fresh free fresh_is room room' at));
  left =
      so_far.left
      ∙ ap (λ parts. option_map (made_after (take count places)) (made_parts table birth stamp count parts)) (drop-slice list count part at)
      ∙ ap (option_map (made_after (take count places))) (made_parts-more table birth stamp count part (drop (suc count) list) made (made_part-at table birth stamp count size place part class least))
      ∙ made_after-twice (take count places) place (made_parts made.table birth stamp (suc count) (drop (suc count) list))
      ∙ ap (λ all. option_map (made_after all) (made_parts made.table birth stamp (suc count) (drop (suc count) list))) (sym (take-suc-set places count place room));
  back = without_one_more table size place block free is_fresh fresh_is places fresh count room room' ∙ so_far.back;
  can = one_more_can_be_unmade table size place block free is_fresh fresh_is places fresh count room room' so_far.can;
  born = born;
}
  where
    block : Block
    block = new_block birth stamp count part

    made : Made
    made = record { place = place; table = with_taken table size place block }

    told : List Deed
    told = placed_deeds table birth places fresh 0 (take count list)

    here : Deed
    here = made_deed table birth count part place

    born : (number : ℕ) (p : Part) → number < suc count → slice_get list number ≡ Some p → block_at (with_taken table size place block) (get_or (set places count place) number 0) ≡ Some (new_block birth stamp number p)
    born number p below is = grind (arith, cases_eq, inl, same_Some, get_or-set_same, block_at-with_taken_same, block, inr, get_or-set_other, block_at-with_taken_there, to_some)

-- a part without a place leaves none made
pub full_so_far : (old : Table Block) (birth stamp : ℕ) (list : List Part) (table : Table Block) (places : List ℕ) (fresh : List Bool) (count : ℕ) (part : Part) (size : ℕ) → AreMadeSoFar old birth stamp list table places fresh count
    → slice_get list count ≡ Some part → class_of (part_words part) ≡ Some size → least_place table size ≡ None → made_parts old birth stamp 0 list ≡ None
full_so_far old birth stamp list table places fresh count part size so_far at class least = grind (arith, drop-slice, made_parts-none, none-part)

-- all parts are made
pub all_so_far : (old : Table Block) (birth stamp : ℕ) (list : List Part) (table : Table Block) (places : List ℕ) (fresh : List Bool) → AreMadeSoFar old birth stamp list table places fresh (length list)
    → made_parts old birth stamp 0 list ≡ Some (record { places = take (length list) places; table = table })
all_so_far old birth stamp list table places fresh so_far = grind (arith, drop-length, append-nil)

-- and told of
pub told_so_far : (old : Table Block) (birth stamp : ℕ) (list : List Part) (table : Table Block) (places : List ℕ) (fresh : List Bool) → AreMadeSoFar old birth stamp list table places fresh (length list)
    → make_deeds old birth stamp 0 list ≡ placed_deeds table birth places fresh 0 list
told_so_far old birth stamp list table places fresh so_far = grind (arith, drop-length, append-nil, take-length)

pub unlinked_so_far : (old : Table Block) (birth stamp : ℕ) (list : List Part) (table : Table Block) (places : List ℕ) (fresh : List Bool) → AreMadeSoFar old birth stamp list table places fresh (length list) → AreUnlinked table places list 0
unlinked_so_far old birth stamp list table places fresh so_far number part least at =
    record { block = new_block birth stamp number part; there = so_far.born number part (slice_get_within list number part at) at; number_is = refl; references = refl }
