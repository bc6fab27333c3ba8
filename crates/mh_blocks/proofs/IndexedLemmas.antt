-- Each change of the words keeps the index.
use Rattle.std.proofs.Common.{◌≡◌, ℕ, ◌+◌, ◌*◌, ◌==◌, Bool, true, false, List, set, get_or, replicate, Option, Some, None, is_some, IsSome, IfSome, refl, ap, ◌∙◌}
use Rattle.std.proofs.lemmas.Bool.{false≢true}
use Rattle.mh_model.specs.Classes.{Part, class_of, part_words}
use Rattle.mh_model.specs.Pages.{Table, page_number, block_at, class_at, count_at, with_taken, with_released, with_flag, IsFreeFor}
use Rattle.mh_model.specs.{Table.{Block, forward_at, new_block}, Collector.{Move, moved_table}}
use Rattle.mh_pages.specs.{declared.header.Header.Header, Words.{words_at, with_word, with_header}}
use Rattle.mh_blocks.specs.Auxiliary.{place_in, reference_words, block_of, block_table, ArePacked, Index, IsIndexOf}
use Rattle.mh_table_laws.proofs.TableMapLemmas.{freed-table_map, with_flag-table_map, with_released-table_map}
use Rattle.mh_table_laws.proofs.PageMapLemmas.{class_at-table_map, free_above}
use Rattle.mh_blocks.proofs.ReadLemmas.{HasReference, HasNumber}
use Rattle.mh_blocks.proofs.WriteLemmas.{with_word-stamp, with_word-reference, with_word-number}
use Rattle.mh_blocks.proofs.{PackedLemmas.empty_blocks, FreeLemmas.of_some, MadeLemmas.IsMadeAt}
use Rattle.mh_blocks.proofs.{MovedLemmas.{copied, IsMoved}, InvariantLemmas.original_at}
use Rattle.mh_blocks.proofs.IndexLemmas.{empty_index, flagged_index, freed_index, changed_index, stamped_index, taken_index, released_index, moved_index}

-- Pages --------------------------------------------------------------------------------------------

pub empty_indexed : (pages : ℕ) → IsIndexOf (block_table (replicate pages None)) (record { marked = replicate (64 * pages) false; forwarders = replicate (64 * pages) false; cycle = 0 })
empty_indexed pages = rw (empty_blocks pages) (empty_index pages)

pub flagged_indexed : (table : Table (List ℕ)) (number : ℕ) (is_flagged : Bool) (index : Index) → IsIndexOf (block_table table) index → IsIndexOf (block_table (with_flag table number is_flagged)) index
flagged_indexed table number is_flagged index is = rw (with_flag-table_map block_of table number is_flagged) (flagged_index (block_table table) number is_flagged index is)

pub freed_indexed : (table : Table (List ℕ)) (number : ℕ) (index : Index) → count_at (block_table table) number ≡ 0 → IsIndexOf (block_table table) index → IsIndexOf (block_table (set table number None)) index
freed_indexed table number index empty is = rw (freed-table_map block_of table number) (freed_index (block_table table) number index empty is)

-- Words --------------------------------------------------------------------------------------------

pub stamp_indexed : (table : Table (List ℕ)) (place stamp : ℕ) (index : Index) → ArePacked table → IsSome (block_at (block_table table) place) → IsIndexOf (block_table table) index
    → IsIndexOf (block_table (with_word table place 2 stamp)) (record index { marked = set index.marked place (stamp == index.cycle) })
stamp_indexed table place stamp index packed there is = rw (with_word-stamp table place stamp packed) (stamped_index (block_table table) place stamp index there is)

pub reference_indexed : (table : Table (List ℕ)) (place number word : ℕ) (index : Index) → HasReference table place number → IsIndexOf (block_table table) index → IsIndexOf (block_table (with_word table place (4 + number) word)) index
reference_indexed table place number word index this is =
    rw (with_word-reference table place number word (place_in word) this refl)
    (changed_index (block_table table) place (λ block. record block { references = set block.references number (place_in word) }) index (ap is_some this.words.block) (λ block. refl) (λ block. refl) is)

pub number_indexed : (table : Table (List ℕ)) (place at number : ℕ) (index : Index) → HasNumber table place at → IsIndexOf (block_table table) index
    → IsIndexOf (block_table (with_word table place (4 + reference_words (words_at table place) + at) number)) index
number_indexed table place at number index this is =
    rw (with_word-number table place at number this) (changed_index (block_table table) place (λ block. record block { numbers = set block.numbers at number }) index this.there (λ block. refl) (λ block. refl) is)

-- Blocks -------------------------------------------------------------------------------------------

pub made_indexed : (table : Table (List ℕ)) (size place birth stamp part_number : ℕ) (part : Part) (header : Header) (index : Index) → IsFreeFor table size place → class_of (part_words part) ≡ Some size → IsMadeAt table (block_table table) size place birth stamp part_number part header → IsIndexOf (block_table table) index
    → IsIndexOf (block_table (with_header (with_taken table size place (replicate size 0)) place header)) (record index { marked = set index.marked place (stamp == index.cycle) })
made_indexed table size place birth stamp part_number part header index free class this is =
    let made : block_table (with_header (with_taken table size place (replicate size 0)) place header) ≡ with_taken (block_table table) size place (new_block birth stamp part_number part)
    = of_some (class_of (part_words part)) (λ s. block_table (with_header (with_taken table size place (replicate size 0)) place header) ≡ with_taken (block_table table) s place (new_block birth stamp part_number part)) size class this.made in
    rw made (taken_index (block_table table) size place (new_block birth stamp part_number part) index (free_above block_of table size place free) refl is)

pub released_indexed : (table : Table (List ℕ)) (place : ℕ) (frees_page : Bool) (index : Index) → IsSome (block_at (block_table table) place) → (frees_page ≡ true → count_at (block_table table) (page_number place) ≡ 1) → IsIndexOf (block_table table) index
    → IsIndexOf (block_table (with_released table place frees_page)) (record index { marked = set index.marked place false; forwarders = set index.forwarders place false })
released_indexed table place frees_page index there alone is = rw (with_released-table_map block_of table place frees_page) (released_index (block_table table) place frees_page index there alone is)

pub moved_indexed : (table : Table (List ℕ)) (size place target word : ℕ) (index : Index) → IsMoved table (block_table table) size place target → IsSome (block_at (block_table table) place) → forward_at (block_table table) place ≡ None → class_at table (page_number place) ≡ Some size → place_in word ≡ Some target
    → IsIndexOf (block_table table) index → IsIndexOf (block_table (with_word (copied table size place target) place 3 word)) (record index { marked = set index.marked target (get_or index.marked place false); forwarders = set index.forwarders place true })
moved_indexed table size place target word index this there original class leads is = go (block_at (block_table table) place) refl there
  where
    go : (content : Option Block) → block_at (block_table table) place ≡ content → IsSome content
        → IsIndexOf (block_table (with_word (copied table size place target) place 3 word)) (record index { marked = set index.marked target (get_or index.marked place false); forwarders = set index.forwarders place true })
    go None at none = absurd (false≢true none)
    go (Some block) at some =
        let move : Move = record { block = block; class_size = size; target = target } in
        let moved : block_table (with_word (copied table size place target) place 3 word) ≡ moved_table (block_table table) place move
        = of_some (class_at (block_table table) (page_number place)) (λ s. block_table (with_word (copied table size place target) place 3 word) ≡ moved_table (block_table table) place (record { block = block; class_size = s; target = target })) size (class_at-table_map block_of table (page_number place) ∙ class)
        (of_some (block_at (block_table table) place) (λ b. IfSome (class_at (block_table table) (page_number place)) (λ s. block_table (with_word (copied table size place target) place 3 word) ≡ moved_table (block_table table) place (record { block = b; class_size = s; target = target }))) block at (this.moved word leads)) in
        rw moved (moved_index (block_table table) place move index at (original_at (block_at (block_table table) place) block at original) (free_above block_of table size target this.free) is)
