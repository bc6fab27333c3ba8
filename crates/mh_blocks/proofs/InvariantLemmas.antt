-- Each change of the words keeps them packed and counted.
use Rattle.std.proofs.Common.{◌≡◌, ℕ, ◌+◌, ◌-◌, ◌≤◌, Bool, List, set, replicate, Option, Some, None, is_some, option_and_then, IsSome, IfSome, refl, sym, ap, ◌∙◌, arith}
use Rattle.std.proofs.lemmas.Bool.{false≢true}
use Rattle.mh_model.specs.Classes.{Part, class_of, part_words}
use Rattle.mh_model.specs.Pages.{Table, page_number, block_at, class_at, count_at, with_taken, with_released, with_flag, IsFreeFor}
use Rattle.mh_model.specs.{Table.{Block, forward_at, new_block}, Collector.{Move, moved_table}}
use Rattle.mh_pages.specs.{declared.header.Header.Header, Words.{words_at, with_word, with_header}}
use Rattle.mh_blocks.specs.Auxiliary.{place_in, reference_words, block_of, block_table, HasCounts, AreCounted}
use Rattle.mh_table_laws.proofs.TableMapLemmas.{freed-table_map, with_flag-table_map, with_released-table_map}
use Rattle.mh_table_laws.proofs.PageMapLemmas.{class_at-table_map, free_above}
use Rattle.mh_blocks.proofs.ReadLemmas.{HasReference, HasNumber}
use Rattle.mh_blocks.proofs.WriteLemmas.{with_word-stamp, with_word-reference, with_word-number}
use Rattle.mh_blocks.proofs.PackedLemmas.{empty_packed, empty_blocks, word_packed, freed_packed, flagged_packed, released_packed}
use Rattle.mh_blocks.proofs.{FreeLemmas.of_some, MadeLemmas.IsMadeAt, MovedLemmas.{copied, IsMoved}}
use Rattle.mh_blocks.proofs.CountedLemmas.{empty_counts, flagged_counts, freed_counts, taken_counts, forwards, IsReleased, changed_counts, moved_counts}

-- Pages --------------------------------------------------------------------------------------------

pub empty_counted : (count : ℕ) → count ≤ 4096 → AreCounted (replicate count None) 0 0
empty_counted count few = record { packed = empty_packed count few; counts = rw (empty_blocks count) (empty_counts count) }

pub flagged_counted : (table : Table (List ℕ)) (number : ℕ) (is_flagged : Bool) (blocks forwarders : ℕ) → AreCounted table blocks forwarders → AreCounted (with_flag table number is_flagged) blocks forwarders
flagged_counted table number is_flagged blocks forwarders counted = record {
  packed = flagged_packed table number is_flagged counted.packed;
  counts = rw (with_flag-table_map block_of table number is_flagged) (flagged_counts (block_table table) number is_flagged blocks forwarders counted.counts);
}

pub freed_counted : (table : Table (List ℕ)) (number blocks forwarders : ℕ) → count_at (block_table table) number ≡ 0 → AreCounted table blocks forwarders → AreCounted (set table number None) blocks forwarders
freed_counted table number blocks forwarders empty counted = record {
  packed = freed_packed table number counted.packed;
  counts = rw (freed-table_map block_of table number) (freed_counts (block_table table) number blocks forwarders empty counted.counts);
}

-- Words --------------------------------------------------------------------------------------------

pub stamp_counted : (table : Table (List ℕ)) (place stamp blocks forwarders : ℕ) → IsSome (block_at (block_table table) place) → AreCounted table blocks forwarders → AreCounted (with_word table place 2 stamp) blocks forwarders
stamp_counted table place stamp blocks forwarders there counted = record {
  packed = word_packed table place 2 stamp (omega arith) counted.packed;
  counts = rw (with_word-stamp table place stamp counted.packed) (changed_counts (block_table table) place (λ block. record block { stamp = stamp }) blocks forwarders there (λ block. refl) counted.counts);
}

pub reference_counted : (table : Table (List ℕ)) (place index word blocks forwarders : ℕ) → HasReference table place index → AreCounted table blocks forwarders → AreCounted (with_word table place (4 + index) word) blocks forwarders
reference_counted table place index word blocks forwarders this counted = record {
  packed = word_packed table place (4 + index) word (omega arith) counted.packed;
  counts =
      rw (with_word-reference table place index word (place_in word) this refl)
      (changed_counts (block_table table) place (λ block. record block { references = set block.references index (place_in word) }) blocks forwarders (ap is_some this.words.block) (λ block. refl) counted.counts);
}

pub number_counted : (table : Table (List ℕ)) (place index number blocks forwarders : ℕ) → HasNumber table place index → AreCounted table blocks forwarders → AreCounted (with_word table place (4 + reference_words (words_at table place) + index) number) blocks forwarders
number_counted table place index number blocks forwarders this counted = record {
  packed = word_packed table place (4 + reference_words (words_at table place) + index) number (omega arith) counted.packed;
  counts = rw (with_word-number table place index number this) (changed_counts (block_table table) place (λ block. record block { numbers = set block.numbers index number }) blocks forwarders this.there (λ block. refl) counted.counts);
}

-- Blocks -------------------------------------------------------------------------------------------

pub made_counted : (table : Table (List ℕ)) (size place birth stamp index : ℕ) (part : Part) (header : Header) (blocks forwarders : ℕ) → IsFreeFor table size place → class_of (part_words part) ≡ Some size → IsMadeAt table (block_table table) size place birth stamp index part header → AreCounted table blocks forwarders
    → AreCounted (with_header (with_taken table size place (replicate size 0)) place header) (blocks + 1) forwarders
made_counted table size place birth stamp index part header blocks forwarders free class this counted =
    let made : block_table (with_header (with_taken table size place (replicate size 0)) place header) ≡ with_taken (block_table table) size place (new_block birth stamp index part)
    = of_some (class_of (part_words part)) (λ s. block_table (with_header (with_taken table size place (replicate size 0)) place header) ≡ with_taken (block_table table) s place (new_block birth stamp index part)) size class this.made in
    record {
      packed = this.packed;
      counts = rw made (taken_counts (block_table table) size place (new_block birth stamp index part) blocks forwarders (free_above block_of table size place free) refl counted.counts);
    }

pub released_counted : (table : Table (List ℕ)) (place : ℕ) (frees_page : Bool) (blocks forwarders : ℕ) → IsReleased (block_table table) (with_released (block_table table) place frees_page) place blocks forwarders → AreCounted table blocks forwarders
    → AreCounted (with_released table place frees_page) (blocks - 1) (forwarders - forwards (block_table table) place)
released_counted table place frees_page blocks forwarders this counted = record {
  packed = released_packed table place frees_page counted.packed;
  counts = rw (with_released-table_map block_of table place frees_page) this.counts;
}

pub original_at : (content : Option Block) (block : Block) → content ≡ Some block → option_and_then (λ (b : Block). b.forward) content ≡ None → block.forward ≡ None
original_at content block is original = ap (option_and_then (λ (b : Block). b.forward)) (sym is) ∙ original

pub moved_counted : (table : Table (List ℕ)) (size place target word blocks forwarders : ℕ) → IsMoved table (block_table table) size place target → IsSome (block_at (block_table table) place) → forward_at (block_table table) place ≡ None → class_at table (page_number place) ≡ Some size → place_in word ≡ Some target → AreCounted table blocks forwarders
    → AreCounted (with_word (copied table size place target) place 3 word) (blocks + 1) (forwarders + 1)
moved_counted table size place target word blocks forwarders this there original class leads counted = record {
  packed = this.packed word;
  counts = go (block_at (block_table table) place) refl there;
}
  where
    go : (content : Option Block) → block_at (block_table table) place ≡ content → IsSome content → HasCounts (block_table (with_word (copied table size place target) place 3 word)) (blocks + 1) (forwarders + 1)
    go None at none = absurd (false≢true none)
    go (Some block) at some =
        let move : Move = record { block = block; class_size = size; target = target } in
        let moved : block_table (with_word (copied table size place target) place 3 word) ≡ moved_table (block_table table) place move
        = of_some (class_at (block_table table) (page_number place)) (λ s. block_table (with_word (copied table size place target) place 3 word) ≡ moved_table (block_table table) place (record { block = block; class_size = s; target = target })) size (class_at-table_map block_of table (page_number place) ∙ class)
        (of_some (block_at (block_table table) place) (λ b. IfSome (class_at (block_table table) (page_number place)) (λ s. block_table (with_word (copied table size place target) place 3 word) ≡ moved_table (block_table table) place (record { block = b; class_size = s; target = target }))) block at (this.moved word leads)) in
        rw moved (moved_counts (block_table table) place move blocks forwarders at (original_at (block_at (block_table table) place) block at original) (free_above block_of table size target this.free) counted.counts)
