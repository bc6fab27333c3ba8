-- Blocks seen as their words.
use Rattle.std.specs.Prelude.{ℕ, List, [], unwrap_or, option_map, set, get_or}
use Rattle.mh_model.specs.Pages.{Table, block_at, with_block}
use Rattle.mh_pages.specs.declared.header.Header.{Header}

-- the header of a block, which is its first four words
abbrev pub header_at : List ℕ → Header
header_at block = record { birth = get_or block 0 0; counts = get_or block 1 0; stamp = get_or block 2 0; forward = get_or block 3 0 }

-- the words of the block at a place, and none if there is no block
abbrev pub words_at : Table (List ℕ) → ℕ → List ℕ
words_at table place = unwrap_or (block_at table place) []

-- the table with another word of the block at a place
abbrev pub with_word : Table (List ℕ) → ℕ → ℕ → ℕ → Table (List ℕ)
with_word table place index word = with_block table place (option_map (λ block. set block index word) (block_at table place))

-- the table with another header of the block at a place
abbrev pub with_header : Table (List ℕ) → ℕ → Header → Table (List ℕ)
with_header table place header = with_word (with_word (with_word (with_word table place 0 header.birth) place 1 header.counts) place 2 header.stamp) place 3 header.forward
