-- Tables whose pages have the slots of their classes, and blocks within the limits of objects: what keeps them so.
use Rattle.std.proofs.Common.{◌≡◌, ℕ, ◌<◌, ◌≤◌, ◌&&◌, nat_lt, nat_le, true, inl, inr, Option, Some, None, option_map, set, refl, ◌∙◌, arith}
use Rattle.std.proofs.{lemmas.Bool.{and_parts, ltb-true, leb-true}, lemmas.Option.{none-some, same_Some}}
use Rattle.std.proofs.lemmas.List.{length-set, length-replicate}
use Rattle.mh_model.specs.Classes.{class_sizes, class_of, slots_in, is_class_size}
use Rattle.mh_model.specs.Pages.{Page, Table, page_number, slot_number, page_at, block_in, block_at, page_with, with_block, page_for, with_taken, HasItsSlots, HaveTheirSlots}
use Rattle.mh_model.specs.{Table.{Block, IsWithinLimits, HasSmallBlocks, with_block_change}, Collector.judged_page}
use Rattle.mh_table_laws.specs.Tables.{KeepsItsPages}
use Rattle.mh_table_laws.proofs.Lists.{get_or-set_either, find-passes, member-passes, none_at}

-- Classes ----------------------------------------------------------------------------------------

-- a page has 1 to 64 slots of each class
pub slots_in-class_size : (size : ℕ) → is_class_size size ≡ true → (0 < slots_in size) × (slots_in size ≤ 64)
unfolding is_class_size
slots_in-class_size size member =
    let (some, few) = and_parts (nat_lt 0 (slots_in size)) (nat_le (slots_in size) 64) (member-passes (λ s. nat_lt 0 (slots_in s) && nat_le (slots_in s) 64) size class_sizes refl member) in
    (ltb-true 0 (slots_in size) some, leb-true (slots_in size) 64 few)

-- the class of so many words is one of the sizes
pub class_of-class_size : (words size : ℕ) → class_of words ≡ Some size → is_class_size size ≡ true
unfolding is_class_size
class_of-class_size words size e = search (arith, nat_le, none-some, find-passes)

-- Pages ------------------------------------------------------------------------------------------

module _ {X : Type 0} where
  pub page_with-slots : (page : Page X) (slot : ℕ) (content : Option X) → HasItsSlots page → HasItsSlots (page_with slot content page)
  page_with-slots page slot content has = grind (arith, length-set)

  pub page_for-slots : (size : ℕ) (content : Option (Page X)) → is_class_size size ≡ true → ((page : Page X) → content ≡ Some page → HasItsSlots page) → HasItsSlots (page_for size content)
  page_for-slots size content member has = grind (arith, length-replicate)

-- a page that is judged keeps its class and its slots
pub record IsJudged (page new : Page Block) : Type 0 where
  pub class : new.class_size ≡ page.class_size
  pub slots : new.slots ≡ page.slots

pub judged_page-is : (table : Table Block) (number : ℕ) (page new : Page Block) → judged_page table number page ≡ Some new → IsJudged page new
judged_page-is table number page new e = grind arith

-- Blocks within the limits -----------------------------------------------------------------------

module _ (most : ℕ) where
  -- each block of a page is so
  pub record IsSmallPage (page : Page Block) : Type 0 where
    pub blocks : (slot : ℕ) (block : Block) → block_in slot page ≡ Some block → IsWithinLimits most block

  pub small_page : (table : Table Block) (number : ℕ) (page : Page Block) → HasSmallBlocks most table → page_at table number ≡ Some page → IsSmallPage page
  small_page table number page small at = grind arith

  pub small_block : (table : Table Block) (place : ℕ) (block : Block) → HasSmallBlocks most table → block_at table place ≡ Some block → IsWithinLimits most block
  small_block table place block small e = grind arith

  -- a block with the header and the part of another is within the limits with it
  pub same_limits : (block new : Block) → new.header ≡ block.header → new.part ≡ block.part → IsWithinLimits most block → IsWithinLimits most new
  same_limits block new header part small = grind arith

  pub page_with-small : (page : Page Block) (slot : ℕ) (content : Option Block) → IsSmallPage page → ((block : Block) → content ≡ Some block → IsWithinLimits most block) → IsSmallPage (page_with slot content page)
  page_with-small page slot content small new = record {
    blocks = λ other block e. elim (get_or-set_either page.slots slot other content None (Some block) e) [ inl written ↦ new block written | inr before ↦ small.blocks other block before ];
  }

  page_for-small : (size : ℕ) (content : Option (Page Block)) → ((page : Page Block) → content ≡ Some page → IsSmallPage page) → IsSmallPage (page_for size content)
  page_for-small size None small = grind (arith, none-some, none_at)
  page_for-small size (Some page) small = small page refl

  set-limits : (table : Table Block) (number : ℕ) (new : Option (Page Block)) → ((page : Page Block) → new ≡ Some page → IsSmallPage page) → HasSmallBlocks most table → HasSmallBlocks most (set table number new)
  set-limits table number new fits small = record {
    blocks = λ other slot page block at e. elim (get_or-set_either table number other new None (Some page) at) [ inl written ↦ (fits page written).blocks slot block e | inr before ↦ small.blocks other slot page block before e ];
  }

  pub with_block-limits : (table : Table Block) (place : ℕ) (content : Option Block) → ((block : Block) → content ≡ Some block → IsWithinLimits most block) → HasSmallBlocks most table → HasSmallBlocks most (with_block table place content)
  with_block-limits table place content new small = grind (arith, set-limits, small_page, none-some, same_Some, page_with-small)

-- Slots of classes -------------------------------------------------------------------------------

set-slots : (table : Table Block) (number : ℕ) (new : Option (Page Block)) → ((page : Page Block) → new ≡ Some page → HasItsSlots page) → HaveTheirSlots table → HaveTheirSlots (set table number new)
set-slots table number new has shaped other page at = grind (arith, get_or-set_either table number other new None (Some page))

pub with_block-slots : (table : Table Block) (place : ℕ) (content : Option Block) → HaveTheirSlots table → HaveTheirSlots (with_block table place content)
with_block-slots table place content shaped = set-slots table (page_number place) _ (λ page e. go (page_at table (page_number place)) (λ p at. shaped (page_number place) p at) page e) shaped
  where
    go : (old : Option (Page Block)) → ((p : Page Block) → old ≡ Some p → HasItsSlots p) → (page : Page Block) → option_map (page_with (slot_number place) content) old ≡ Some page → HasItsSlots page
    go old has page e = grind (arith, none-some, same_Some, page_with-slots)

-- Tables -----------------------------------------------------------------------------------------

module _ (made : ℕ) where
  pub keeps_same : (table : Table Block) → KeepsItsPages made table table
  keeps_same table = grind arith

  pub keeps_then : (first second third : Table Block) → KeepsItsPages made first second → KeepsItsPages made second third → KeepsItsPages made first third
  keeps_then first second third one two = record { pages = two.pages ∙ one.pages; slots = λ shaped. two.slots (one.slots shaped); limits = λ most room small. two.limits most room (one.limits most room small) }

  -- a page written, which has the slots of its class, and blocks within the limits
  pub set-keeps : (table : Table Block) (number : ℕ) (new : Option (Page Block)) → (HaveTheirSlots table → (page : Page Block) → new ≡ Some page → HasItsSlots page)
      → ((most : ℕ) → made ≤ most → HasSmallBlocks most table → (page : Page Block) → new ≡ Some page → IsSmallPage most page) → KeepsItsPages made table (set table number new)
  set-keeps table number new has fits = grind (arith, length-set, set-slots, set-limits)

  -- a block written in a slot
  pub with_block-keeps : (table : Table Block) (place : ℕ) (content : Option Block) → ((most : ℕ) → made ≤ most → HasSmallBlocks most table → (block : Block) → content ≡ Some block → IsWithinLimits most block) → KeepsItsPages made table (with_block table place content)
  with_block-keeps table place content fits = search (arith, length-set, with_block-slots, with_block-limits)

  -- a block changed that keeps its header and its part
  pub change-keeps : (table : Table Block) (place : ℕ) (change : Block → Block) → ((block : Block) → ((change block).header ≡ block.header) × ((change block).part ≡ block.part)) → KeepsItsPages made table (with_block_change table place change)
  change-keeps table place change same = with_block-keeps table place (option_map change (block_at table place)) (λ most room small block e. go most (block_at table place) (λ b at. small_block most table place b small at) block e)
    where
      go : (most : ℕ) (old : Option Block) → ((b : Block) → old ≡ Some b → IsWithinLimits most b) → (block : Block) → option_map change old ≡ Some block → IsWithinLimits most block
      go most old small block e = grind arith

  pub with_taken-keeps : (table : Table Block) (size place : ℕ) (block : Block) → (HaveTheirSlots table → is_class_size size ≡ true) → ((most : ℕ) → made ≤ most → HasSmallBlocks most table → IsWithinLimits most block) → KeepsItsPages made table (with_taken table size place block)
  with_taken-keeps table size place block member fits =
      set-keeps table (page_number place) _
      (grind (arith, same_Some, taken, page_with-slots, page_for-slots))
      (grind (arith, same_Some, taken, page_with-small, page_for-small, small_page))
    where
      taken : Page Block
      taken = page_for size (page_at table (page_number place))
