-- One word of a block written is one field of it changed.
use Rattle.std.proofs.Common.{◌≡◌, ℕ, ◌+◌, ◌<◌, List, [], set, Option, Some, unwrap_or, ap, ◌∙◌, subst, arith}
use Rattle.mh_model.specs.Pages.{Table, block_at}
use Rattle.mh_model.specs.Table.{with_block_change, with_reference_at, with_number_at, with_stamp_at}
use Rattle.mh_pages.specs.Words.{words_at, with_word}
use Rattle.mh_blocks.specs.Auxiliary.{place_in, reference_words, block_of, block_table, ArePacked}
use Rattle.mh_table_laws.proofs.TableMapLemmas.{changed}
use Rattle.mh_blocks.proofs.BlockLemmas.{stamp_written, forward_written, reference_written, number_written}
use Rattle.mh_blocks.proofs.ReadLemmas.{HasReference, HasNumber}

pub with_word-stamp : (table : Table (List ℕ)) (place stamp : ℕ) → ArePacked table → block_table (with_word table place 2 stamp) ≡ with_stamp_at (block_table table) place stamp
with_word-stamp table place stamp packed =
    changed block_of table place (λ words. set words 2 stamp) (λ block. record block { stamp = stamp })
    (λ words is. stamp_written words stamp (omega (arith, (packed.blocks place words is).room)))

pub with_word-forward : (table : Table (List ℕ)) (place word target : ℕ) → ArePacked table → place_in word ≡ Some target → block_table (with_word table place 3 word) ≡ with_block_change (block_table table) place (λ block. record block { forward = Some target })
with_word-forward table place word target packed leads =
    changed block_of table place (λ words. set words 3 word) (λ block. record block { forward = Some target })
    (λ words is. forward_written words word (omega (arith, (packed.blocks place words is).room)) ∙ ap (λ forward. record (block_of words) { forward = forward }) leads)

pub with_word-reference : (table : Table (List ℕ)) (place index word : ℕ) (reference : Option ℕ) → HasReference table place index → place_in word ≡ reference → block_table (with_word table place (4 + index) word) ≡ with_reference_at (block_table table) place index reference
with_word-reference table place index word reference this leads =
    changed block_of table place (λ words. set words (4 + index) word) (λ block. record block { references = set block.references index (place_in word) })
    (λ words is. reference_written words index word (subst (λ content. index < reference_words (unwrap_or content [])) is this.below))
    ∙ ap (with_reference_at (block_table table) place index) leads

pub with_word-number : (table : Table (List ℕ)) (place index number : ℕ) → HasNumber table place index → block_table (with_word table place (4 + reference_words (words_at table place) + index) number) ≡ with_number_at (block_table table) place index number
with_word-number table place index number this =
    changed block_of table place (λ words. set words (4 + reference_words (words_at table place) + index) number) (λ block. record block { numbers = set block.numbers index number })
    (λ words is. ap (λ i. block_of (set words i number)) (at words is) ∙ number_written words index number)
  where
    at : (words : List ℕ) → block_at table place ≡ Some words → 4 + reference_words (words_at table place) + index ≡ 4 + (reference_words words + index)
    at words is = grind arith
