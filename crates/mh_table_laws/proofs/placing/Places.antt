-- Places: reading a table after a write, what the search for a place finds, and a place taken and given back.
use Rattle.std.proofs.Common.{◌≡◌, ◌≢◌, ℕ, zero, suc, ◌+◌, ◌<◌, ◌≤◌, Bool, true, false, if◌then◌else◌, List, [], ◌∷◌, length, get_or, set, Option, Some, None, is_some, is_none, option_map, option_and_then, IsSome, refl, sym, ap, ◌∙◌, subst, arith}
use Rattle.std.proofs.lemmas.Bool.{cases_eq, false≢true, and_parts, not-true, eqb-true}
use Rattle.std.proofs.lemmas.Option.{none-some, same_Some}
use Rattle.std.proofs.lemmas.List.{get_or-set_same, get_or-set_other, set-get_or, set-set}
use Rattle.std.specs.Option.{option_or}
use Rattle.mh_model.specs.Classes.{slots_in}
use Rattle.mh_model.specs.Pages.{Page, Table, page_number, slot_number, page_at, block_in, block_at, block_count, is_dense, is_sparse, empty_slot, open_slot, fresh_slot, first_place, least, least_dense_place, least_place, page_with, with_block, page_for, with_taken, with_released, HaveTheirSlots, IsFreeFor}
use Rattle.mh_table_laws.specs.Auxiliary.{IsFirstEmpty, IsFound, GivesNone, IsLeastOfItsTier}
use Rattle.mh_table_laws.proofs.Lists.{from_some, below_length, set_back, none_at}
use Rattle.mh_table_laws.proofs.tables.PageSlots.{slots_in-class_size}

module _ {X : Type 0} where
  -- Reading and writing --------------------------------------------------------------------------

  -- a place is a slot of a page in use
  pub record IsSlot (table : Table X) (place : ℕ) : Type 0 where
    pub page : Page X
    pub in_use : page_at table (page_number place) ≡ Some page
    pub within : slot_number place < length page.slots

  -- and so is each place with a block
  pub block-slot : (table : Table X) (place : ℕ) (block : X) → block_at table place ≡ Some block → IsSlot table place
  block-slot table place block e = grind (arith, none-some, below_length)

  pub block_at-with_block_same : (table : Table X) (place : ℕ) (content : Option X) → IsSlot table place → block_at (with_block table place content) place ≡ content
  block_at-with_block_same table place content slot = grind (arith, below_length, get_or-set_same)

  -- if a block is, it is exchanged
  pub block_at-with_block_there : (table : Table X) (place : ℕ) (content : Option X) → IsSome (block_at table place) → block_at (with_block table place content) place ≡ content
  block_at-with_block_there table place content there = let (block, is) = from_some (block_at table place) there in block_at-with_block_same table place content (block-slot table place block is)

  -- a page's own change, read at another slot
  page-other : (table : Table X) (number slot other : ℕ) (content : Option X) → other ≢ slot
      → option_and_then (block_in other) (page_at (set table number (option_map (page_with slot content) (page_at table number))) number) ≡ option_and_then (block_in other) (page_at table number)
  page-other (page ∷ table) (suc number) slot other content apart = page-other table number slot other content apart
  page-other table number slot other content apart = grind (arith, get_or-set_other)

  pub block_at-with_block_other : (table : Table X) (place other : ℕ) (content : Option X) → other ≢ place → block_at (with_block table place content) other ≡ block_at table other
  block_at-with_block_other table place other content apart = grind (arith, cases_eq, page-other, get_or-set_other)

  -- a block written twice, and one written back
  pub with_block-twice : (table : Table X) (place : ℕ) (first second : Option X) → with_block (with_block table place first) place second ≡ with_block table place second
  with_block-twice table place first second = go table (page_number place)
    where
      go : (pages : Table X) (number : ℕ)
          → set (set pages number (option_map (page_with (slot_number place) first) (page_at pages number))) number (option_map (page_with (slot_number place) second) (page_at (set pages number (option_map (page_with (slot_number place) first) (page_at pages number))) number))
          ≡ set pages number (option_map (page_with (slot_number place) second) (page_at pages number))
      go (page ∷ pages) (suc number) = ap (λ rest. page ∷ rest) (go pages number)
      go pages number = grind (arith, set-set)

  pub with_block-self : (table : Table X) (place : ℕ) → with_block table place (block_at table place) ≡ table
  with_block-self table place = go table (page_number place)
    where
      go : (pages : Table X) (number : ℕ) → set pages number (option_map (page_with (slot_number place) (option_and_then (block_in (slot_number place)) (page_at pages number))) (page_at pages number)) ≡ pages
      go (page ∷ pages) (suc number) = ap (λ rest. page ∷ rest) (go pages number)
      go pages number = grind (arith, set-get_or)

  -- no page has more than 64 slots
  abbrev pub IsShaped : Table X → Type 0
  IsShaped table = (number : ℕ) (page : Page X) → page_at table number ≡ Some page → length page.slots ≤ 64

  -- pages that have the slots of their classes have no more
  pub shaped-slots : (table : Table X) → HaveTheirSlots table → IsShaped table
  shaped-slots table have number page at =
      let has = have number page at in
      omega (arith, has.slots, (slots_in-class_size page.class_size has.class).1)

  -- The search -----------------------------------------------------------------------------------

  found_here : (slot_of : Option (Page X) → Option ℕ) (page : Option (Page X)) (table : Table X) (slot : ℕ) → slot < 64 → slot_of page ≡ Some slot → IsFound slot_of (page ∷ table) slot
  found_here slot_of page table slot small e = grind arith

  found_after : (slot_of : Option (Page X) → Option ℕ) (page : Option (Page X)) (table : Table X) (place : ℕ) → slot_of page ≡ None → IsFound slot_of table place → IsFound slot_of (page ∷ table) (64 + place)
  found_after slot_of page table place e found = grind arith

  pub least-is : (slot_of : Option (Page X) → Option ℕ) (table : Table X) → ((number slot : ℕ) → slot_of (page_at table number) ≡ Some slot → slot < 64) → (place : ℕ) → least slot_of table ≡ Some place → IsFound slot_of table place
  least-is slot_of [] small place e = absurd (none-some place e)
  least-is slot_of (page ∷ table) small place e = go (slot_of page) refl (least slot_of table) e (λ after k. least-is slot_of table (λ number slot h. small (suc number) slot h) after k)
    where
      go : (here : Option ℕ) → slot_of page ≡ here → (rest : Option ℕ) → first_place here rest ≡ Some place → ((after : ℕ) → rest ≡ Some after → IsFound slot_of table after) → IsFound slot_of (page ∷ table) place
      go (Some slot) is rest h after = grind (arith, same_Some slot place h, found_here slot_of page table slot (small zero slot is) is)
      go None is None h after = absurd (none-some place h)
      go None is (Some q) h after = grind (arith, same_Some (64 + q) place h, found_after slot_of page table q is (after q refl))

  pub least-some : (slot_of : Option (Page X) → Option ℕ) (table : Table X) (number : ℕ) → number < length table → IsSome (slot_of (page_at table number)) → IsSome (least slot_of table)
  least-some slot_of (page ∷ table) (suc number) inside given = there (slot_of page) (least slot_of table) (least-some slot_of table number (omega arith) given)
    where
      there : (o rest : Option ℕ) → IsSome rest → IsSome (first_place o rest)
      there o rest i = grind arith
  least-some slot_of table number inside given = grind (arith, false≢true)

  pub least-none : (slot_of : Option (Page X) → Option ℕ) (table : Table X) → least slot_of table ≡ None → GivesNone slot_of table
  least-none slot_of table none number inside = go (slot_of (page_at table number)) refl
    where
      go : (slot : Option ℕ) → slot_of (page_at table number) ≡ slot → slot ≡ None
      go None is = refl
      go (Some slot) is = absurd (false≢true (sym (ap is_some none) ∙ least-some slot_of table number inside (ap is_some is)))

  pub empty_slot-is : (slots : List (Option X)) (slot : ℕ) → empty_slot slots ≡ Some slot → IsFirstEmpty slots slot
  empty_slot-is (Some block ∷ slots) slot e = go (empty_slot slots) e (λ after h. empty_slot-is slots after h)
    where
      first_after : (after : ℕ) → IsFirstEmpty slots after → (other : ℕ) → other < suc after → IsSome (get_or (Some block ∷ slots) other None)
      first_after after k other h = grind arith

      go : (rest : Option ℕ) → option_map suc rest ≡ Some slot → ((after : ℕ) → rest ≡ Some after → IsFirstEmpty slots after) → IsFirstEmpty (Some block ∷ slots) slot
      go None h ih = absurd (none-some slot h)
      go (Some after) h ih =
          let k = ih after refl in
          subst (IsFirstEmpty (Some block ∷ slots)) (same_Some (suc after) slot h) (record { within = omega (arith, k.within); empty = k.empty; first = first_after after k })
  empty_slot-is slots slot e = grind (arith, none-some, same_Some)

  -- an open slot is the first without a block, of a page in use that passes the test
  pub record IsOpen (test : Page X → Bool) (content : Option (Page X)) (slot : ℕ) : Type 0 where
    pub page : Page X
    pub in_use : content ≡ Some page
    pub passes : test page ≡ true
    pub empty : IsFirstEmpty page.slots slot

  pub open_slot-is : (test : Page X → Bool) (content : Option (Page X)) (slot : ℕ) → open_slot test content ≡ Some slot → IsOpen test content slot
  open_slot-is test None slot e = absurd (none-some slot e)
  open_slot-is test (Some page) slot e = go (test page) refl e
    where
      go : (passes : Bool) → test page ≡ passes → (if passes then empty_slot page.slots else None) ≡ Some slot → IsOpen test (Some page) slot
      go true is h = search (arith, empty_slot-is)
      go false is h = absurd (none-some slot h)

  fresh_slot-is : (content : Option (Page X)) (slot : ℕ) → fresh_slot content ≡ Some slot → (content ≡ None) × (slot ≡ 0)
  fresh_slot-is content slot e = grind arith

  -- The first tier -------------------------------------------------------------------------------

  least_open-is : (test : Page X → Bool) (table : Table X) → IsShaped table → (place : ℕ) → least (open_slot test) table ≡ Some place → IsFound (open_slot test) table place
  least_open-is test table shaped place e = least-is (open_slot test) table small place e
    where
      small : (number slot : ℕ) → open_slot test (page_at table number) ≡ Some slot → slot < 64
      small number slot h = grind (arith, open_slot-is test (page_at table number) slot h)

  -- The first tier's place is in a page in use that is unflagged and of the class, and no slot before it there and no page below it has room
  pub least_dense_place-is : (table : Table X) (size : ℕ) → IsShaped table → (place : ℕ) → least_dense_place table size ≡ Some place → IsFound (open_slot (is_dense size)) table place
  least_dense_place-is table size shaped place e = least_open-is (is_dense size) table shaped place e

  pub least_dense_place-page : (table : Table X) (size : ℕ) → IsShaped table → (place : ℕ) → least_dense_place table size ≡ Some place
      → (page : Page X) × (page_at table (page_number place) ≡ Some page) × (page.class_size ≡ size) × (page.is_flagged ≡ false) × IsFirstEmpty page.slots (slot_number place)
  least_dense_place-page table size shaped place e =
      let there = open_slot-is (is_dense size) (page_at table (page_number place)) (slot_number place) (least_dense_place-is table size shaped place e).gives in
      grind (arith, and_parts, eqb-true, not-true)

  -- All tiers ------------------------------------------------------------------------------------

  open-free : (test : Page X → Bool) (table : Table X) (size : ℕ) → ((page : Page X) → test page ≡ true → page.class_size ≡ size) → IsShaped table → (place : ℕ) → least (open_slot test) table ≡ Some place → IsFreeFor table size place
  open-free test table size of_class shaped place e =
      let there = open_slot-is test (page_at table (page_number place)) (slot_number place) (least_open-is test table shaped place e).gives in
      grind arith

  fresh-free : (table : Table X) (size : ℕ) → 0 < slots_in size → (place : ℕ) → least fresh_slot table ≡ Some place → IsFreeFor table size place
  fresh-free table size some_slot place e =
      let found = least-is fresh_slot table (λ number slot h. omega (arith, (fresh_slot-is (page_at table number) slot h).1)) place e in
      let (free, first) = fresh_slot-is (page_at table (page_number place)) (slot_number place) found.gives in
      grind arith

  dense-class : (size : ℕ) (page : Page X) → is_dense size page ≡ true → page.class_size ≡ size
  dense-class size page e = grind arith

  sparse-class : (size : ℕ) (page : Page X) → is_sparse size page ≡ true → page.class_size ≡ size
  sparse-class size page e = grind arith

  -- What is found for a class is free for it
  pub least_place-free : (table : Table X) (size : ℕ) → IsShaped table → 0 < slots_in size → (place : ℕ) → least_place table size ≡ Some place → IsFreeFor table size place
  least_place-free table size shaped some_slot place e = go (least_dense_place table size) refl (least fresh_slot table) refl e
    where
      go : (dense : Option ℕ) → least_dense_place table size ≡ dense → (fresh : Option ℕ) → least fresh_slot table ≡ fresh → option_or dense (option_or fresh (least (open_slot (is_sparse size)) table)) ≡ Some place → IsFreeFor table size place
      go (Some q) is fresh is' h = open-free (is_dense size) table size (dense-class size) shaped place (is ∙ h)
      go None is (Some q) is' h = fresh-free table size some_slot place (is' ∙ h)
      go None is None is' h = search (arith, open-free, sparse-class)

  -- The least place is the least of the first tier that gives one
  pub least_place-least : (table : Table X) (size : ℕ) → IsShaped table → (place : ℕ) → least_place table size ≡ Some place → IsLeastOfItsTier table size place
  least_place-least table size shaped place e = grind (arith, least_open-is, least-none, least-is, fresh_slot-is)

  -- Taking and giving back -----------------------------------------------------------------------

  -- the page of a place that was taken
  pub taken_page : (table : Table X) (size place : ℕ) (block : X) → IsFreeFor table size place → page_at (with_taken table size place block) (page_number place) ≡ Some (page_with (slot_number place) (Some block) (page_for size (page_at table (page_number place))))
  taken_page table size place block free = get_or-set_same table (page_number place) _ None free.inside

  -- what is there after a place was taken
  pub block_at-with_taken_same : (table : Table X) (size place : ℕ) (block : X) → IsFreeFor table size place → block_at (with_taken table size place block) place ≡ Some block
  block_at-with_taken_same table size place block free = grind (arith, taken_page, get_or-set_same)

  pub block_in-page_for : (content : Option (Page X)) (size slot : ℕ) → block_in slot (page_for size content) ≡ option_and_then (block_in slot) content
  block_in-page_for content size slot = grind (arith, none_at)

  taken-other_slot : (table : Table X) (number size slot other : ℕ) (block : X) → other ≢ slot
      → option_and_then (block_in other) (page_at (set table number (Some (page_with slot (Some block) (page_for size (page_at table number))))) number) ≡ option_and_then (block_in other) (page_at table number)
  taken-other_slot (page ∷ table) (suc number) size slot other block apart = taken-other_slot table number size slot other block apart
  taken-other_slot table number size slot other block apart = grind (arith, get_or-set_other, block_in-page_for)

  pub block_at-with_taken_other : (table : Table X) (size place other : ℕ) (block : X) → other ≢ place → block_at (with_taken table size place block) other ≡ block_at table other
  block_at-with_taken_other table size place other block apart = grind (arith, cases_eq, taken-other_slot, get_or-set_other)

  -- where a block was, it still is
  pub block_at-with_taken_there : (table : Table X) (size place other : ℕ) (block : X) → IsFreeFor table size place → IsSome (block_at table other) → block_at (with_taken table size place block) other ≡ block_at table other
  block_at-with_taken_there table size place other block free there = grind (arith, block_at-with_taken_other, false≢true, there)

  -- a block put and then exchanged is the other one put
  pub with_block-with_taken : (table : Table X) (size place : ℕ) (block other : X) → IsFreeFor table size place → with_block (with_taken table size place block) place (Some other) ≡ with_taken table size place other
  with_block-with_taken table size place block other free = grind (arith, taken_page, set-set)

  -- A place taken in a free page and given back with it leaves the table
  pub with_released-fresh : (table : Table X) (size place : ℕ) (block : X) → page_at table (page_number place) ≡ None → with_released (with_taken table size place block) place true ≡ table
  with_released-fresh table size place block free = set_back table (page_number place) _ free

  page_back : (page : Page X) (slot : ℕ) (content : Option X) → block_in slot page ≡ None → page_with slot None (page_with slot content page) ≡ page
  page_back page slot content e = grind (arith, set_back)

  -- and so does one taken in a page in use and given back alone
  pub with_released-taken : (table : Table X) (size place : ℕ) (block : X) (page : Page X) → page_at table (page_number place) ≡ Some page → block_at table place ≡ None → with_released (with_taken table size place block) place false ≡ table
  with_released-taken table size place block page at empty = go table (page_number place) at (sym (ap (option_and_then (block_in (slot_number place))) at) ∙ empty)
    where
      go : (pages : Table X) (number : ℕ) → page_at pages number ≡ Some page → block_in (slot_number place) page ≡ None
          → set (set pages number (Some (page_with (slot_number place) (Some block) (page_for size (page_at pages number))))) number
          (option_map (page_with (slot_number place) None) (page_at (set pages number (Some (page_with (slot_number place) (Some block) (page_for size (page_at pages number))))) number)) ≡ pages
      go (p ∷ pages) (suc number) e e' = ap (λ ps. p ∷ ps) (go pages number e e')
      go pages number e e' = grind (arith, none-some, page_back, same_Some)

  -- A place taken and given back, its page with it where that was free, leaves the table
  pub with_released-with_taken : (table : Table X) (size place : ℕ) (block : X) → block_at table place ≡ None → with_released (with_taken table size place block) place (is_none (page_at table (page_number place))) ≡ table
  with_released-with_taken table size place block empty = grind (arith, with_released-fresh, with_released-taken)

  -- A page has one block less after one that is taken away
  pub block_count-removed : (slots : List (Option X)) (slot : ℕ) → IsSome (get_or slots slot None) → block_count (set slots slot None) + 1 ≡ block_count slots
  block_count-removed (None ∷ slots) (suc slot) e = block_count-removed slots slot e
  block_count-removed (Some block ∷ slots) (suc slot) e = omega (arith, block_count-removed slots slot e)
  block_count-removed slots slot e = grind (arith, false≢true)

  -- and if none has a block each slot is empty
  pub block_count-none : (slots : List (Option X)) (slot : ℕ) → block_count slots ≡ 0 → get_or slots slot None ≡ None
  block_count-none (None ∷ slots) (suc slot) none = block_count-none slots slot none
  block_count-none slots slot none = grind arith
