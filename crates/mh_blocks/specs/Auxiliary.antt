-- Auxiliary definitions: what loops, private functions and the insides of types keep. No public contract depends on them.
use Rattle.std.specs.Prelude.{◌≡◌, ℕ, ◌*◌, Bool, false, Option, Some, None, option_map, unwrap_or, List, length, get_or, zero, suc, ◌-◌, ◌/◌, ◌%◌, ◌^◌, map, take, drop, ◌+◌, ◌≤◌, ◌<◌, filter}
use Rattle.mh_model.specs.{Pages.{Table, block_at}, Table.{Block, is_forwarder}, Collector.is_marked}
use Rattle.mh_model.specs.{declared.shape.Shape.Shape, Machine.blocks_of}
use Rattle.mh_classes.specs.Counts.{reference_count, number_count}
use Rattle.mh_table_laws.specs.TableMaps.{table_map}
use Rattle.mh_pages.specs.declared.header.Header.{Header}

-- the places of the blocks that are marked in a cycle, and of the forwarders
pub record Index : Type 0 where
  pub marked : List Bool
  pub forwarders : List Bool
  pub cycle : ℕ

-- whether a block is at a place and passes a test
abbrev pub passes_at : (Block → Bool) → Table Block → ℕ → Bool
passes_at test table place = unwrap_or (option_map test (block_at table place)) false

-- the places of the blocks of a table that pass a test
pub record HasThosePlaces (test : Block → Bool) (table : Table Block) (places : List Bool) : Type 0 where
  pub long : length places ≡ 64 * length table
  pub each : (place : ℕ) → get_or places place false ≡ passes_at test table place

-- the index of a table
pub record IsIndexOf (table : Table Block) (index : Index) : Type 0 where
  pub marks : HasThosePlaces (is_marked index.cycle) table index.marked
  pub forwards : HasThosePlaces is_forwarder table index.forwarders

-- What the words of a block stand for.
-- Word 0 is the birth and 1 more.
-- Word 1 is part * 2 ^ 40 + references * 2 ^ 20 + numbers: the number of the part, and the counts of its header in 20 bits each.
-- Word 2 is the mark stamp. Word 3 is the forwarding word: 0, or the place that the block moved to and 1 more.
-- The fields follow from word 4 on: the references, each 0 for null or else a place and 1 more, and then the numbers.

-- the place that a word stands for: none for 0
abbrev pub place_in : ℕ → Option ℕ
place_in zero = None
place_in (suc place) = Some place

-- the number of the part in a word of counts
abbrev pub part_in : ℕ → ℕ
part_in word = word / 2 ^ 40

-- the header in a word of counts
abbrev pub header_in : ℕ → Shape
header_in word = record { references = word / 2 ^ 20 % 2 ^ 20; numbers = word % 2 ^ 20 }

-- how many references the words of a block have
abbrev pub reference_words : List ℕ → ℕ
reference_words words = reference_count (header_in (get_or words 1 0))

-- how many numbers they have
abbrev pub number_words : List ℕ → ℕ
number_words words = number_count (header_in (get_or words 1 0))

-- the block of four header words and the words after them
abbrev pub block_from : ℕ → ℕ → ℕ → ℕ → List ℕ → Block
block_from birth counts stamp forward fields = record {
  birth = birth - 1;
  part = part_in counts;
  header = header_in counts;
  stamp = stamp;
  forward = place_in forward;
  references = map place_in (take (reference_count (header_in counts)) fields);
  numbers = take (number_count (header_in counts)) (drop (reference_count (header_in counts)) fields);
}

-- the block that words stand for
unfoldable pub block_of : List ℕ → Block
block_of words = block_from (get_or words 0 0) (get_or words 1 0) (get_or words 2 0) (get_or words 3 0) (drop 4 words)

-- the table of blocks that a table of words stands for
abbrev pub block_table : Table (List ℕ) → Table Block
block_table table = table_map block_of table

-- The headers of new blocks.

-- the header words of a block as it is made: it has the birth, the part, the counts and the stamp, and leads nowhere
pub record IsNewHeader (birth stamp part : ℕ) (counts : Shape) (header : Header) : Type 0 where
  pub birth_word : header.birth ≡ birth + 1
  pub part_word : part_in header.counts ≡ part
  pub counts_word : header_in header.counts ≡ counts
  pub stamp_word : header.stamp ≡ stamp
  pub forward_word : place_in header.forward ≡ None

-- Words that blocks can be read from: they have room for what the header of their block counts.

-- the words of a block: its first isn't 0, and they have room for the fields that its header counts
pub record IsPacked (words : List ℕ) : Type 0 where
  pub born : 0 < get_or words 0 0
  pub room : 4 + reference_words words + number_words words ≤ length words
  pub most : length words ≤ 64

-- a table of at most 4,096 pages in which the words of each block are so
pub record ArePacked (table : Table (List ℕ)) : Type 0 where
  pub few : length table ≤ 4096
  pub blocks : (place : ℕ) (words : List ℕ) → block_at table place ≡ Some words → IsPacked words

-- Words that blocks can be read from, with how many blocks they stand for.

-- a table has so many blocks, and so many of them are forwarders
pub record HasCounts (table : Table Block) (blocks forwarders : ℕ) : Type 0 where
  pub blocks_are : blocks ≡ length (blocks_of table)
  pub forwarders_are : forwarders ≡ length (filter is_forwarder (blocks_of table))

-- the words of each block are packed, and so many blocks and forwarders are there
pub record AreCounted (table : Table (List ℕ)) (blocks forwarders : ℕ) : Type 0 where
  pub packed : ArePacked table
  pub counts : HasCounts (table_map block_of table) blocks forwarders
