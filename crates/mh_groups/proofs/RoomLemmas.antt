-- How many places are free for a class as parts are made: each full part takes one of them, and no part frees any.
use Rattle.std.proofs.Common.{◌≡◌, ◌≢◌, ℕ, zero, suc, ◌+◌, ◌<◌, ◌≤◌, Bool, true, false, ◌⊎◌, inl, inr, List, [], ◌∷◌, length, get_or, set, replicate, Option, Some, None, option_map, option_and_then, refl, sym, ap, ◌∙◌, arith, eq-eqb}
use Rattle.std.proofs.lemmas.Bool.{cases_eq, cases_Bool, ne_eqb, eqb-true, and_parts}
use Rattle.std.proofs.lemmas.Option.{none-some, same_Some}
use Rattle.mh_model.specs.Classes.{Part, class_of, part_words}
use Rattle.mh_model.specs.Pages.{Page, Table, page_at, block_in, page_with, page_for, with_taken, HaveTheirSlots, IsFreeFor}
use Rattle.mh_model.specs.Table.{Block, Made, MadeParts, new_block, made_part, made_parts, group_of, made_group}
use Rattle.mh_pages.specs.FreePlaces.{empty_count, free_in, free_places}
use Rattle.mh_table_laws.specs.Auxiliary.{IsMade}
use Rattle.mh_table_laws.proofs.placing.Places.{IsShaped, shaped-slots}
use Rattle.mh_table_laws.proofs.objects.MadeGroups.{made_part-is, made_parts-shaped}
use Rattle.mh_groups.specs.Auxiliary.{is_full, full_count}
use Rattle.mh_groups.proofs.{MadeLemmas.{made_part-at, made_parts-more}, FullLemmas.{one_if, count_part}}

all_empty : (X : Type 0) (count : ℕ) → empty_count {X = X} (replicate count None) ≡ count
all_empty X zero = refl
all_empty X (suc count) = ap suc (all_empty X count)

module _ {X : Type 0} where
  -- A slot taken ---------------------------------------------------------------------------------

  slot_taken : (slots : List (Option X)) (slot : ℕ) (block : X) → slot < length slots → get_or slots slot None ≡ None → suc (empty_count (set slots slot (Some block))) ≡ empty_count slots
  slot_taken [] slot block within empty = absurd (omega arith)
  slot_taken (None ∷ slots) zero block within empty = refl
  slot_taken (Some other ∷ slots) zero block within empty = absurd (none-some other (sym empty))
  slot_taken (None ∷ slots) (suc slot) block within empty = ap suc (slot_taken slots slot block (omega arith) empty)
  slot_taken (Some other ∷ slots) (suc slot) block within empty = slot_taken slots slot block (omega arith) empty

  none_at : (count slot : ℕ) → get_or {A = Option X} (replicate count None) slot None ≡ None
  none_at zero slot = refl
  none_at (suc count) zero = refl
  none_at (suc count) (suc slot) = none_at count slot

  -- A page of which a place is taken has one place less for the class
  page_taken : (content : Option (Page X)) (size slot : ℕ) (block : X) → slot < length (page_for size content).slots → (page_for size content).class_size ≡ size → option_and_then (block_in slot) content ≡ None
      → suc (free_in size (Some (page_with slot (Some block) (page_for size content)))) ≡ free_in size content
  page_taken None size slot block within of_class empty = grind (arith, eq-eqb, slot_taken, none_at, all_empty)
  page_taken (Some page) size slot block within of_class empty = grind (arith, eq-eqb, slot_taken)

  -- and no more for another
  page_other : (content : Option (Page X)) (size other slot : ℕ) (block : X) → (page_for size content).class_size ≡ size → size ≢ other
      → free_in other (Some (page_with slot (Some block) (page_for size content))) ≡ 0
  page_other content size other slot block of_class apart = grind (arith, ne_eqb)

  -- Places of all pages --------------------------------------------------------------------------

  places_set : (table : Table X) (number : ℕ) (page : Option (Page X)) (size : ℕ) → number < length table → free_places (set table number page) size + free_in size (page_at table number) ≡ free_places table size + free_in size page
  places_set [] number page size within = absurd (omega arith)
  places_set (old ∷ table) zero page size within = omega arith
  places_set (old ∷ table) (suc number) page size within = omega (arith, places_set table number page size (omega arith))

  -- A place taken for a class is one less for it
  pub places_taken : (table : Table X) (size place : ℕ) (block : X) → IsFreeFor table size place → suc (free_places (with_taken table size place block) size) ≡ free_places table size
  places_taken table size place block free = grind (arith, places_set, page_taken)

  -- and none more for another
  pub places_other : (table : Table X) (size other place : ℕ) (block : X) → IsFreeFor table size place → size ≢ other → free_places (with_taken table size place block) other ≤ free_places table other
  places_other table size other place block free apart = grind (arith, places_set, page_other)

-- Parts made -------------------------------------------------------------------------------------

-- a part that is made leaves a table of at most 64 slots a page
made_part-shaped : (table : Table Block) (birth stamp index : ℕ) (part : Part) (first : Made) → IsShaped table → made_part table birth stamp index part ≡ Some first → IsShaped first.table
made_part-shaped table birth stamp index part first shaped made =
    made_parts-shaped (part ∷ []) table birth stamp index shaped (record { places = first.place ∷ []; table = first.table }) (made_parts-more table birth stamp index part [] first made)

-- a full part takes one place of the largest class
full_class : (part : Part) (size : ℕ) → is_full part ≡ true → class_of (part_words part) ≡ Some size → size ≡ 64
full_class part size full class = grind (arith, eqb-true, and_parts, same_Some)

one_part : (table : Table Block) (birth stamp index : ℕ) (part : Part) (first : Made) → IsShaped table → made_part table birth stamp index part ≡ Some first
    → one_if (is_full part) + free_places first.table 64 ≤ free_places table 64
one_part table birth stamp index part first shaped made = by_size (cases_eq one.size 64)
  where
    one : IsMade table birth stamp index part first
    one = made_part-is table birth stamp index part shaped first made

    block : Block
    block = new_block birth stamp index part

    table_is : first.table ≡ with_taken table one.size first.place block
    table_is = ap (λ (m : Made). m.table) (same_Some _ _ (sym made ∙ made_part-at table birth stamp index one.size first.place part one.class one.least))

    at_most_one : (b : Bool) → one_if b ≤ 1
    at_most_one true = omega arith
    at_most_one false = omega arith

    by_size : (one.size ≡ 64) ⊎ (one.size ≡ 64 → ⊥) → one_if (is_full part) + free_places first.table 64 ≤ free_places table 64
    by_size (inl largest) = grind (arith, at_most_one, one, block, places_taken, table_is)
    by_size (inr other) = grind (arith, cases_Bool, inl, full_class, one, inr, one_if, places_other, block, table_is)

-- Parts that are all made found a place for each full one
pub full_parts_fit : (list : List Part) (table : Table Block) (birth stamp index : ℕ) → IsShaped table → (made : MadeParts) → made_parts table birth stamp index list ≡ Some made → full_count list ≤ free_places table 64
full_parts_fit [] table birth stamp index shaped made e = omega arith
full_parts_fit (part ∷ list) table birth stamp index shaped made e =
    by_first (made_part table birth stamp index part) refl e (λ t s m h. full_parts_fit list t birth stamp (suc index) s m h)
  where
    by_rest : (first : Made) → one_if (is_full part) + free_places first.table 64 ≤ free_places table 64 → (rest : Option MadeParts) → made_parts first.table birth stamp (suc index) list ≡ rest
        → option_map (λ (r : MadeParts). record { places = first.place ∷ r.places; table = r.table }) rest ≡ Some made
        → ((m : MadeParts) → made_parts first.table birth stamp (suc index) list ≡ Some m → full_count list ≤ free_places first.table 64) → full_count (part ∷ list) ≤ free_places table 64
    by_rest first one None is h more = absurd (none-some made h)
    by_rest first one (Some rest) is h more = omega (arith, one, more rest is, count_part part list)

    by_first : (first : Option Made) → made_part table birth stamp index part ≡ first
        → option_and_then (λ (f : Made). option_map (λ (r : MadeParts). record { places = f.place ∷ r.places; table = r.table }) (made_parts f.table birth stamp (suc index) list)) first ≡ Some made
        → ((t : Table Block) → IsShaped t → (m : MadeParts) → made_parts t birth stamp (suc index) list ≡ Some m → full_count list ≤ free_places t 64) → full_count (part ∷ list) ≤ free_places table 64
    by_first None is h more = absurd (none-some made h)
    by_first (Some first) is h more =
        by_rest first (one_part table birth stamp index part first shaped is) (made_parts first.table birth stamp (suc index) list) refl h (more first.table (made_part-shaped table birth stamp index part first shaped is))

-- An object with more full parts than there are places for is not made
pub no_room : (table : Table Block) (birth stamp : ℕ) (list : List Part) → HaveTheirSlots table → free_places table 64 < full_count list → made_group table birth stamp list ≡ None
no_room table birth stamp list slots less = go (made_parts table birth stamp 0 list) refl
  where
    go : (made : Option MadeParts) → made_parts table birth stamp 0 list ≡ made → made_group table birth stamp list ≡ None
    go None is = ap (option_and_then (λ (m : MadeParts). group_of m.table m.places list)) is
    go (Some made) is = absurd (omega (arith, less, full_parts_fit list table birth stamp 0 (shaped-slots table slots) made is))
