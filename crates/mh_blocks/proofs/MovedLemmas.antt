-- Blocks moved.
use Rattle.std.proofs.Common.{◌≡◌, ℕ, ◌<◌, ◌^◌, List, [], length, Some, is_some, option_map, unwrap_or, IsSome, IfSome, sym, ap, ◌∙◌, subst, arith}
use Rattle.std.proofs.lemmas.Option.{same_Some}
use Rattle.mh_model.specs.Pages.{Table, page_number, block_at, class_at, with_block, with_taken, IsFreeFor}
use Rattle.mh_model.specs.{Table.Block, Collector.moved_table}
use Rattle.mh_pages.specs.Words.{words_at, with_word}
use Rattle.mh_blocks.specs.Auxiliary.{place_in, block_of, block_table, ArePacked}
use Rattle.mh_table_laws.proofs.TableMapLemmas.{block_at-table_map, with_taken-table_map}
use Rattle.mh_table_laws.proofs.placing.Places.{block_at-with_taken_there}
use Rattle.mh_table_laws.proofs.PageMapLemmas.{class_at-table_map, free_above}
use Rattle.mh_blocks.proofs.{ReadLemmas.{words_there, header_within, small_place}, WriteLemmas.with_word-forward}
use Rattle.mh_blocks.proofs.{PackedLemmas.{taken_packed, word_packed}, FreeLemmas.{if_some, at_some, free_for_class}}

-- the table with the words of a block copied to another place
abbrev pub copied : Table (List ℕ) → ℕ → ℕ → ℕ → Table (List ℕ)
copied table size place target = with_taken table size target (words_at table place)

-- the words of a block copied, which stay where they were, and then its forwarding word written
pub record IsMoved (table : Table (List ℕ)) (above : Table Block) (size place target : ℕ) : Type 0 where
  pub free : IsFreeFor table size target
  pub small : target < 2 ^ 62
  pub there : IsSome (block_at (copied table size place target) place)
  pub within : 3 < length (words_at (copied table size place target) place)
  pub packed : (word : ℕ) → ArePacked (with_word (copied table size place target) place 3 word)
  pub moved : (word : ℕ) → place_in word ≡ Some target
      → IfSome (block_at above place) (λ block. IfSome (class_at above (page_number place)) (λ s. block_table (with_word (copied table size place target) place 3 word) ≡ moved_table above place (record { block = block; class_size = s; target = target })))

moves_below : (table : Table (List ℕ)) (size place target : ℕ) → ArePacked table → IsSome (block_at (block_table table) place) → IsFreeFor table size target → class_at table (page_number place) ≡ Some size → IsMoved table (block_table table) size place target
moves_below table size place target packed there free class =
    let words = words_there table place packed there in
    let all : ArePacked (copied table size place target) = taken_packed table size target (words_at table place) words.packed packed in
    let still : block_at (copied table size place target) place ≡ Some (words_at table place)
    = block_at-with_taken_there table size target place (words_at table place) free (ap is_some words.is) ∙ words.is in
    record {
      free = free;
      small = small_place table target packed (free_above block_of table size target free).inside;
      there = ap is_some still;
      within = omega (arith, header_within table place words, ap (λ content. length (unwrap_or content [])) still);
      packed = λ word. word_packed (copied table size place target) place 3 word (omega arith) all;
      moved = λ word leads. if_some (block_at (block_table table) place) _ (λ block is.
          at_some (class_at (block_table table) (page_number place)) _ size (class_at-table_map block_of table (page_number place) ∙ class)
          (with_word-forward (copied table size place target) place word target all leads
          ∙ ap (λ content. with_block (block_table (copied table size place target)) place (option_map (λ (b : Block). record b { forward = Some target }) content)) (block_at-table_map block_of (copied table size place target) place ∙ ap (option_map block_of) still ∙ sym words.block ∙ is)
          ∙ ap (λ t. with_block t place (Some (record block { forward = Some target }))) (with_taken-table_map block_of table size target (words_at table place) ∙ ap (with_taken (block_table table) size target) (same_Some (block_of (words_at table place)) block (sym words.block ∙ is)))));
    }

pub moves : (table : Table (List ℕ)) (above : Table Block) (size place target : ℕ) → block_table table ≡ above → ArePacked table → IsSome (block_at above place) → IfSome (class_at above (page_number place)) (λ s. IsFreeFor above s target) → class_at table (page_number place) ≡ Some size
    → IsMoved table above size place target
moves table above size place target view packed there free class =
    let above_class : class_at above (page_number place) ≡ Some size = ap (λ t. class_at t (page_number place)) (sym view) ∙ class_at-table_map block_of table (page_number place) ∙ class in
    let below = free_for_class table above (class_at above (page_number place)) size target view free above_class in
    subst (λ t. IsMoved table t size place target) view (moves_below table size place target packed (subst (λ t. IsSome (block_at t place)) (sym view) there) below class)
