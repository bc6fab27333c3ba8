-- Words of one block written one after another.
use Rattle.std.proofs.Common.{◌≡◌, ℕ, ◌≤◌, Option, Some, None, is_some, IsSome, option_map, unwrap_or, List, [], length, set, ap, ◌∙◌, arith}
use Rattle.std.proofs.{lemmas.Bool.false≢true, lemmas.List.length-set}
use Rattle.mh_model.specs.Pages.{Table, block_at}
use Rattle.mh_pages.specs.Words.{words_at, with_word}
use Rattle.mh_table_laws.proofs.placing.Places.{block_at-with_block_there}

-- a place has a block with the words of a header
pub record HasHeader (table : Table (List ℕ)) (place : ℕ) : Type 0 where
  pub there : IsSome (block_at table place)
  pub four : 4 ≤ length (words_at table place)

pub header_after : (table new : Table (List ℕ)) (place index word : ℕ) → new ≡ with_word table place index word → HasHeader table place → HasHeader new place
header_after table new place index word is has = grind (arith, block_at-with_block_there, false≢true, length-set)
