-- Pages of slots, and the least place of a class. A place is the number `page * 64 + slot`.
-- Blocks are seen here as values of any type, since only their places count. So a crate that knows of a block only its words cites the same
-- definitions as one that knows all of it.
use Rattle.std.specs.Prelude.{◌≡◌, ◌<◌, IsTrue, IsSome, ℕ, suc, ◌+◌, ◌/◌, ◌%◌, ◌==◌, Bool, true, false, not, ◌&&◌, if◌then◌else◌, Option, Some, None, option_map, option_and_then, unwrap_or, List, [], ◌∷◌, length, take, set, get_or, replicate}
use Rattle.std.specs.{List.list_any, Option.option_or}
use Rattle.mh_model.specs.Classes.{is_class_size, slots_in}

-- a page in use: the class of its blocks, known by its size; its flag; and its slots, each with a block or without
-- from: Metronome
pub record Page (X : Type 0) : Type 0 where
  pub class_size : ℕ
  pub is_flagged : Bool
  pub slots : List (Option X)

-- the pages in order, each free or in use
-- from: Metronome
abbrev pub Table : Type 0 → Type 0
Table X = List (Option (Page X))

-- the number of a place's page, and of its slot there
abbrev pub page_number : ℕ → ℕ
page_number place = place / 64

abbrev pub slot_number : ℕ → ℕ
slot_number place = place % 64

-- a slot of the first page, or else a place among the pages after it
abbrev pub first_place : Option ℕ → Option ℕ → Option ℕ
first_place (Some slot) after = Some slot
first_place None after = option_map (λ place. 64 + place) after

module _ {X : Type 0} where
  -- What is there --------------------------------------------------------------------------------

  -- the page of this number, if it is in use
  abbrev pub page_at : Table X → ℕ → Option (Page X)
  page_at table page = get_or table page None

  -- the block in a slot of a page, and at a place, if one is there
  abbrev pub block_in : ℕ → Page X → Option X
  block_in slot page = get_or page.slots slot None

  abbrev pub block_at : Table X → ℕ → Option X
  block_at table place = option_and_then (block_in (slot_number place)) (page_at table (page_number place))

  -- a reference is null, or a block is at its place
  abbrev pub Leads : Table X → Option ℕ → Type 0
  Leads table None = Unit {0}
  Leads table (Some place) = IsSome (block_at table place)

  -- the class of a page in use, known by its size, and none of a free one
  -- from: Metronome
  abbrev pub class_at : Table X → ℕ → Option ℕ
  class_at table page = option_map (λ used. used.class_size) (page_at table page)

  -- the flag of a page in use, which a free one has not
  -- from: Metronome
  abbrev pub flag_at : Table X → ℕ → Bool
  flag_at table page = unwrap_or (option_map (λ used. used.is_flagged) (page_at table page)) false

  -- how many of these slots have a block
  abbrev pub block_count : List (Option X) → ℕ
  block_count [] = 0
  block_count (None ∷ slots) = block_count slots
  block_count (Some block ∷ slots) = suc (block_count slots)

  -- how many blocks a page in use has, forwarders too
  abbrev pub live_in : Page X → ℕ
  live_in page = block_count page.slots

  -- how many pages are free
  abbrev pub free_pages : Table X → ℕ
  free_pages [] = 0
  free_pages (None ∷ pages) = suc (free_pages pages)
  free_pages (Some page ∷ pages) = free_pages pages

  -- how many blocks the page of this number has: none if it is free
  abbrev pub count_at : Table X → ℕ → ℕ
  count_at table page = unwrap_or (option_map live_in (page_at table page)) 0

  -- The least place ------------------------------------------------------------------------------

  -- a page of this class that isn't flagged: one of the first tier of placement
  abbrev pub is_dense : ℕ → Page X → Bool
  is_dense size page = (page.class_size == size) && not page.is_flagged

  -- a page of this class that is flagged: one of the last tier
  abbrev pub is_sparse : ℕ → Page X → Bool
  is_sparse size page = (page.class_size == size) && page.is_flagged

  -- the first of these slots that has no block
  abbrev pub empty_slot : List (Option X) → Option ℕ
  empty_slot [] = None
  empty_slot (None ∷ slots) = Some 0
  empty_slot (Some block ∷ slots) = option_map suc (empty_slot slots)

  -- the first slot without a block, of a page in use that passes a test
  abbrev pub open_slot : (Page X → Bool) → Option (Page X) → Option ℕ
  open_slot test None = None
  open_slot test (Some page) = if test page then empty_slot page.slots else None

  -- slot 0 of a free page: the second tier
  abbrev pub fresh_slot : Option (Page X) → Option ℕ
  fresh_slot None = Some 0
  fresh_slot (Some page) = None

  -- the least place, by page and then slot, of the slots that are given of each page
  abbrev pub least : (Option (Page X) → Option ℕ) → Table X → Option ℕ
  least slot_of [] = None
  least slot_of (page ∷ pages) = first_place (slot_of page) (least slot_of pages)

  -- the first tier of placement, the only one for moves: the least free place in unflagged pages of the class
  abbrev pub least_dense_place : Table X → ℕ → Option ℕ
  least_dense_place table size = least (open_slot (is_dense size)) table

  -- the least place of a class by the three tiers: of the first tier, else slot 0 of the least free page,
  -- else the least free place in flagged pages of the class
  abbrev pub least_place : Table X → ℕ → Option ℕ
  least_place table size = option_or (least_dense_place table size) (option_or (least fresh_slot table) (least (open_slot (is_sparse size)) table))

  -- a page is in use, of this class, and unflagged
  abbrev pub is_dense_page : ℕ → Option (Page X) → Bool
  is_dense_page size None = false
  is_dense_page size (Some page) = is_dense size page

  -- such a page has a lower number than this one
  abbrev pub has_denser : Table X → ℕ → ℕ → Bool
  has_denser table page size = list_any (is_dense_page size) (take page table)

  -- Changes --------------------------------------------------------------------------------------

  -- a page with this in a slot
  abbrev pub page_with : ℕ → Option X → Page X → Page X
  page_with slot content page = record page { slots = set page.slots slot content }

  -- the table with this at a place of a page in use
  abbrev pub with_block : Table X → ℕ → Option X → Table X
  with_block table place content = set table (page_number place) (option_map (page_with (slot_number place) content) (page_at table (page_number place)))

  -- the page for a block of a class: one in use as it is; a free one that is taken becomes in use, of the class and unflagged
  abbrev pub page_for : ℕ → Option (Page X) → Page X
  page_for size None = record { class_size = size; is_flagged = false; slots = replicate (slots_in size) None }
  page_for size (Some page) = page

  -- the table with a block at a place that was free for its class; the page is then in use, if it was free
  abbrev pub with_taken : Table X → ℕ → ℕ → X → Table X
  with_taken table size place block = set table (page_number place) (Some (page_with (slot_number place) (Some block) (page_for size (page_at table (page_number place)))))

  -- the table with the block at a place taken back, and its page freed if this is asked
  abbrev pub with_released : Table X → ℕ → Bool → Table X
  with_released table place true = set table (page_number place) None
  with_released table place false = with_block table place None

  -- a page with its flag set so
  -- from: Metronome
  abbrev pub flagged_as : Bool → Page X → Page X
  flagged_as is_flagged page = record page { is_flagged = is_flagged }

  -- the table with the flag of a page in use set so
  -- from: Metronome
  abbrev pub with_flag : Table X → ℕ → Bool → Table X
  with_flag table page is_flagged = set table page (option_map (flagged_as is_flagged) (page_at table page))

  -- What holds of pages and places ---------------------------------------------------------------

  -- the class of a page is one of the sizes, and the page has the slots of its class
  pub record HasItsSlots (page : Page X) : Type 0 where
    pub class : IsTrue (is_class_size page.class_size)
    pub slots : length page.slots ≡ slots_in page.class_size

  -- each page in use has the slots of its class, which is one of the sizes
  abbrev pub HaveTheirSlots : Table X → Type 0
  HaveTheirSlots table = (number : ℕ) (page : Page X) → page_at table number ≡ Some page → HasItsSlots page

  -- a place is free for a class: a slot of a free page that a page of the class has; or a slot without a block in a page of the class
  pub record IsFreeFor (table : Table X) (size place : ℕ) : Type 0 where
    pub inside : page_number place < length table
    pub empty : block_at table place ≡ None
    pub within : slot_number place < length (page_for size (page_at table (page_number place))).slots
    pub of_class : (page_for size (page_at table (page_number place))).class_size ≡ size
