-- What is read of the words of a block.
use Rattle.std.proofs.Common.{◌≡◌, ℕ, zero, suc, ◌+◌, ◌-◌, ◌^◌, ◌<◌, ◌≤◌, List, [], ◌∷◌, length, get_or, Option, Some, None, option_map, option_and_then, unwrap_or, IsSome, IfSome, refl, sym, ap, ◌∙◌, subst, arith}
use Rattle.std.proofs.lemmas.Bool.{false≢true}
use Rattle.mh_model.specs.Pages.{Page, Table, page_number, slot_number, page_at, block_in, block_at, class_at, Leads}
use Rattle.mh_model.specs.Table.{Block, references_at, reference_at, numbers_at, number_at, stamp_at, forward_at}
use Rattle.mh_pages.specs.Words.{words_at}
use Rattle.mh_blocks.specs.Auxiliary.{place_in, part_in, header_in, reference_words, number_words, block_of, block_table, IsPacked, ArePacked}
use Rattle.mh_table_laws.proofs.TableMapLemmas.{length-table_map, block_at-table_map}
use Rattle.mh_blocks.proofs.BlockLemmas.{length-references, length-numbers, reference-is, number-is}

-- a block that is there, and its words
pub record HasWords (table : Table (List ℕ)) (place : ℕ) : Type 0 where
  pub is : block_at table place ≡ Some (words_at table place)
  pub block : block_at (block_table table) place ≡ Some (block_of (words_at table place))
  pub packed : IsPacked (words_at table place)

some_words : (content : Option (List ℕ)) → IsSome (option_map block_of content) → content ≡ Some (unwrap_or content [])
some_words None there = absurd (false≢true there)
some_words (Some words) there = refl

pub words_there : (table : Table (List ℕ)) (place : ℕ) → ArePacked table → IsSome (block_at (block_table table) place) → HasWords table place
words_there table place packed there =
    let is : block_at table place ≡ Some (words_at table place) = some_words (block_at table place) (subst (λ content. IsSome content) (block_at-table_map block_of table place) there) in
    record { is = is; block = block_at-table_map block_of table place ∙ ap (option_map block_of) is; packed = packed.blocks place (words_at table place) is }

-- Headers ------------------------------------------------------------------------------------------

pub header_within : (table : Table (List ℕ)) (place : ℕ) → HasWords table place → 4 ≤ length (words_at table place)
header_within table place words = omega (arith, words.packed.room)

pub birth_is : (table : Table (List ℕ)) (place : ℕ) → HasWords table place → IfSome (block_at (block_table table) place) (λ block. get_or (words_at table place) 0 0 - 1 ≡ block.birth)
unfolding block_of
birth_is table place words = rw words.block refl

pub part_is : (table : Table (List ℕ)) (place : ℕ) → HasWords table place → IfSome (block_at (block_table table) place) (λ block. part_in (get_or (words_at table place) 1 0) ≡ block.part)
unfolding block_of
part_is table place words = rw words.block refl

pub header_is : (table : Table (List ℕ)) (place : ℕ) → HasWords table place → IfSome (block_at (block_table table) place) (λ block. header_in (get_or (words_at table place) 1 0) ≡ block.header)
unfolding block_of
header_is table place words = rw words.block refl

pub stamp_is : (table : Table (List ℕ)) (place : ℕ) → HasWords table place → get_or (words_at table place) 2 0 ≡ stamp_at (block_table table) place
unfolding block_of
stamp_is table place words = sym (ap (λ content. unwrap_or (option_map (λ block. block.stamp) content) 0) words.block)

pub forward_is : (table : Table (List ℕ)) (place : ℕ) → HasWords table place → place_in (get_or (words_at table place) 3 0) ≡ forward_at (block_table table) place
unfolding block_of
forward_is table place words = sym (ap (λ content. option_and_then (λ block. block.forward) content) words.block)

-- References ---------------------------------------------------------------------------------------

pub reference_count_is : (table : Table (List ℕ)) (place : ℕ) → HasWords table place → reference_words (words_at table place) ≡ length (references_at (block_table table) place)
reference_count_is table place words = sym (ap (λ content. length (unwrap_or (option_map (λ block. block.references) content) [])) words.block ∙ length-references (words_at table place) words.packed)

pub few_references : (table : Table (List ℕ)) (place : ℕ) → HasWords table place → reference_words (words_at table place) ≤ 60
few_references table place words = omega (arith, words.packed.room, words.packed.most)

-- one of the references of a block
pub record HasReference (table : Table (List ℕ)) (place index : ℕ) : Type 0 where
  pub words : HasWords table place
  pub below : index < reference_words (words_at table place)

reference_there : (content : Option Block) (index : ℕ) → index < length (unwrap_or (option_map (λ block. block.references) content) []) → IsSome content
reference_there None index below = absurd (omega arith)
reference_there (Some block) index below = refl

pub has_reference : (table : Table (List ℕ)) (place index : ℕ) → ArePacked table → index < length (references_at (block_table table) place) → HasReference table place index
has_reference table place index packed below =
    let words = words_there table place packed (reference_there (block_at (block_table table) place) index below) in
    record { words = words; below = omega (arith, reference_count_is table place words) }

pub reference_within : (table : Table (List ℕ)) (place index : ℕ) → HasReference table place index → (4 + index < length (words_at table place)) × (index < 60)
reference_within table place index this = (omega (arith, this.words.packed.room, this.below), omega (arith, this.words.packed.room, this.words.packed.most, this.below))

pub reference_at_is : (table : Table (List ℕ)) (place index : ℕ) → HasReference table place index → place_in (get_or (words_at table place) (4 + index) 0) ≡ reference_at (block_table table) place index
reference_at_is table place index this =
    sym (ap (λ content. get_or (unwrap_or (option_map (λ block. block.references) content) []) index None) this.words.block ∙ reference-is (words_at table place) index this.words.packed this.below)

-- Numbers ------------------------------------------------------------------------------------------

pub number_count_is : (table : Table (List ℕ)) (place : ℕ) → HasWords table place → number_words (words_at table place) ≡ length (numbers_at (block_table table) place)
number_count_is table place words = sym (ap (λ content. length (unwrap_or (option_map (λ block. block.numbers) content) [])) words.block ∙ length-numbers (words_at table place) words.packed)

-- one of the numbers of a block, and how many references stand before its numbers
pub record HasNumber (table : Table (List ℕ)) (place index : ℕ) : Type 0 where
  pub words : HasWords table place
  pub below : index < number_words (words_at table place)
  pub there : IsSome (block_at (block_table table) place)
  pub references : length (references_at (block_table table) place) ≡ reference_words (words_at table place)

number_there : (content : Option Block) (index : ℕ) → index < length (unwrap_or (option_map (λ block. block.numbers) content) []) → IsSome content
number_there None index below = absurd (omega arith)
number_there (Some block) index below = refl

pub has_number : (table : Table (List ℕ)) (place index : ℕ) → ArePacked table → index < length (numbers_at (block_table table) place) → HasNumber table place index
has_number table place index packed below =
    let there : IsSome (block_at (block_table table) place) = number_there (block_at (block_table table) place) index below in
    let words = words_there table place packed there in
    record { words = words; below = omega (arith, number_count_is table place words); there = there; references = sym (reference_count_is table place words) }

pub number_within : (table : Table (List ℕ)) (place index : ℕ) → HasNumber table place index → (4 + reference_words (words_at table place) + index < length (words_at table place)) × (reference_words (words_at table place) + index < 60)
number_within table place index this = (omega (arith, this.words.packed.room, this.below), omega (arith, this.words.packed.room, this.words.packed.most, this.below))

pub number_at_is : (table : Table (List ℕ)) (place index : ℕ) → HasNumber table place index → get_or (words_at table place) (4 + reference_words (words_at table place) + index) 0 ≡ number_at (block_table table) place index
number_at_is table place index this =
    ap (λ i. get_or (words_at table place) i 0) (omega arith)
    ∙ sym (ap (λ content. get_or (unwrap_or (option_map (λ block. block.numbers) content) []) index 0) this.words.block ∙ number-is (words_at table place) index this.below)

-- Places -------------------------------------------------------------------------------------------

page_inside : (table : Table Block) (number slot : ℕ) → IsSome (option_and_then (block_in slot) (page_at table number)) → number < length table
page_inside [] number slot there = absurd (false≢true there)
page_inside (page ∷ table) zero slot there = omega arith
page_inside (page ∷ table) (suc number) slot there = let inside : number < length table = page_inside table number slot there in omega arith

-- the page of a block is one of the pages
pub page_there : (table : Table Block) (place : ℕ) → IsSome (block_at table place) → page_number place < length table
page_there table place there = page_inside table (page_number place) (slot_number place) there

class_used : (page : Option (Page Block)) (slot : ℕ) → IsSome (option_and_then (block_in slot) page) → IsSome (option_map (λ used. used.class_size) page)
class_used None slot there = absurd (false≢true there)
class_used (Some page) slot there = refl

-- and has a class
pub class_there : (table : Table Block) (place : ℕ) → IsSome (block_at table place) → IsSome (class_at table (page_number place))
class_there table place there = class_used (page_at table (page_number place)) (slot_number place) there

-- the places of few pages are small numbers
pub small_place : (table : Table (List ℕ)) (place : ℕ) → ArePacked table → page_number place < length (block_table table) → place < 2 ^ 62
small_place table place packed inside = let few = packed.few in omega (arith, length-table_map block_of table)

pub small_target : (table : Table (List ℕ)) (reference : Option ℕ) → ArePacked table → Leads (block_table table) reference → IfSome reference (λ place. place < 2 ^ 62)
small_target table None packed leads = tt
small_target table (Some place) packed leads = small_place table place packed (page_there (block_table table) place leads)
