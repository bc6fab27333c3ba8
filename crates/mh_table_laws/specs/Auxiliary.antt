-- Auxiliary definitions: what loops, private functions and the insides of types keep. No public contract depends on them.
use Rattle.std.specs.Prelude.{◌≡◌, ◌≢◌, ◌⊎◌, ℕ, ◌+◌, Some, None, List, length, slice_get, suc, ◌<◌, ◌≤◌, IsSome, Option, get_or}
use Rattle.mh_model.specs.{Classes.{Part, class_of, part_words, parts}, declared.config.Rules.Rules}
use Rattle.mh_model.specs.World.{most_fields_under}
use Rattle.mh_model.specs.Pages.{Table, block_at, least_place, IsFreeFor, Page, page_number, slot_number, page_at, is_dense, is_sparse, open_slot, fresh_slot}
use Rattle.mh_model.specs.Table.{Block, Made, MadeParts, new_block, linked_block}

-- New objects: their parts are new blocks at places that were free, and every other block stays.

-- a new part: a new block at the least place of its class, which was free for it, and nothing else is changed
pub record IsMade (table : Table Block) (birth stamp index : ℕ) (part : Part) (made : Made) : Type 0 where
  pub size : ℕ
  pub class : class_of (part_words part) ≡ Some size
  pub least : least_place table size ≡ Some made.place
  pub free : IsFreeFor table size made.place
  pub there : block_at made.table made.place ≡ Some (new_block birth stamp index part)
  pub others : (place : ℕ) → place ≢ made.place → block_at made.table place ≡ block_at table place

-- blocks at new places: the places had none, every block that was there stays, and there are no other blocks
pub record AreAdded (old new : Table Block) (places : List ℕ) : Type 0 where
  pub fresh : (i place : ℕ) → slice_get places i ≡ Some place → block_at old place ≡ None
  pub kept : (place : ℕ) (block : Block) → block_at old place ≡ Some block → block_at new place ≡ Some block
  pub only : (place : ℕ) (block : Block) → block_at new place ≡ Some block → (block_at old place ≡ Some block) ⊎ ((i : ℕ) × (slice_get places i ≡ Some place))

-- new parts in order, the first of them with this number: each is a new block at a place that had none, and every other block stays
pub record AreMade (table : Table Block) (birth stamp index : ℕ) (parts : List Part) (made : MadeParts) : Type 0 where
  pub count : length made.places ≡ length parts
  pub there : (i place : ℕ) (part : Part) → slice_get made.places i ≡ Some place → slice_get parts i ≡ Some part → block_at made.table place ≡ Some (new_block birth stamp (index + i) part)
  pub added : AreAdded table made.table made.places

-- a new object at the place of its part 0: all its parts are made, at places that had no block, each with references to its children; every other
-- block stays
pub record IsGroup (table : Table Block) (birth stamp : ℕ) (parts : List Part) (made : Made) : Type 0 where
  pub places : List ℕ
  pub first : slice_get places 0 ≡ Some made.place
  pub count : length places ≡ length parts
  pub there : (i place : ℕ) (part : Part) → slice_get places i ≡ Some place → slice_get parts i ≡ Some part → block_at made.table place ≡ Some (linked_block places part (new_block birth stamp i part))
  pub added : AreAdded table made.table places

-- The parts of an object fit together. Its counts are in the header of the first. The children of a part come after it and are parts of the object.
-- Each part but the first is a child of one before it. If the rules allow the object, each part has a class and a header within the most fields, and
-- there are 3,661 at most. No rules allow more than 216,000 fields
pub record PartsFitTogether : Type 0 where
  pub header : (references numbers : ℕ) (part : Part) → slice_get (parts references numbers) 0 ≡ Some part → part.header ≡ record { references = references; numbers = numbers }
  pub children : (references numbers i : ℕ) (part : Part) (child : ℕ) → slice_get (parts references numbers) i ≡ Some part → part.children ≡ Some child → (i < child) × (child + part.references ≤ length (parts references numbers))
  pub parents : (references numbers i : ℕ) → suc i < length (parts references numbers)
      → (parent : ℕ) × (part : Part) × (child : ℕ) × (index : ℕ) × (slice_get (parts references numbers) parent ≡ Some part) × (part.children ≡ Some child) × (parent < suc i) × (index < part.references) × (child + index ≡ suc i)
  pub classes : (rules : Rules) (references numbers i : ℕ) (part : Part) → references + numbers ≤ most_fields_under rules → slice_get (parts references numbers) i ≡ Some part → IsSome (class_of (part_words part))
  pub limits : (rules : Rules) (references numbers i : ℕ) (part : Part) → references + numbers ≤ most_fields_under rules → slice_get (parts references numbers) i ≡ Some part → part.header.references + part.header.numbers ≤ most_fields_under rules
  pub few : (rules : Rules) (references numbers : ℕ) → references + numbers ≤ most_fields_under rules → length (parts references numbers) ≤ 3661
  pub most : (rules : Rules) → most_fields_under rules ≤ 216000

-- Where a block of a class finds a place.

module _ {X : Type 0} where
  -- the first slot without a block: each slot before it has one
  pub record IsFirstEmpty (slots : List (Option X)) (slot : ℕ) : Type 0 where
    pub within : slot < length slots
    pub empty : get_or slots slot None ≡ None
    pub first : (other : ℕ) → other < slot → IsSome (get_or slots other None)

  -- the place of the least page that gives a slot, at that slot: no page below gives one
  pub record IsFound (slot_of : Option (Page X) → Option ℕ) (table : Table X) (place : ℕ) : Type 0 where
    pub inside : page_number place < length table
    pub gives : slot_of (page_at table (page_number place)) ≡ Some (slot_number place)
    pub first : (number : ℕ) → number < page_number place → slot_of (page_at table number) ≡ None

  -- no page gives a slot
  abbrev pub GivesNone : (Option (Page X) → Option ℕ) → Table X → Type 0
  GivesNone slot_of table = (number : ℕ) → number < length table → slot_of (page_at table number) ≡ None

  -- the least place of the first tier that gives one. The tiers are the unflagged pages of the class, the free pages, and the flagged pages of the
  -- class
  abbrev pub IsLeastOfItsTier : Table X → ℕ → ℕ → Type 0
  IsLeastOfItsTier table size place =
      IsFound (open_slot (is_dense size)) table place
      ⊎ ((GivesNone (open_slot (is_dense size)) table × IsFound fresh_slot table place)
      ⊎ (GivesNone (open_slot (is_dense size)) table × GivesNone fresh_slot table × IsFound (open_slot (is_sparse size)) table place))
