use Rattle.mh_blocks.proofs.{IndexedLemmas.number_indexed, AddressMap.address_in-table_map}
use Rattle.mh_blocks.proofs.{InvariantLemmas.number_counted, ReadLemmas.{has_number, number_within}}
use Rattle.mh_blocks.proofs.WriteLemmas.{with_word-number}
use Rattle.std.proofs.Common.{◌≡◌, ◌∙◌, arith}
use Rattle.mh_blocks.specs.Auxiliary.{reference_words, block_of}
use Rattle.mh_pages.specs.Words.{words_at}
use Rattle.mh_blocks.proofs.blocks.Blocks.store_int.Goals as goal

pub overflow_add-references-2 : goal.overflow_add-references-2
overflow_add-references-2 c =
    let there = rw (← c.self.view_is) at c.requires in
    let number = has_number _ _ _ c.self.invariant.0.packed there in
    grind (arith, number_within)

pub set_word_from-requires-clause-at : goal.set_word_from-requires-clause-at
set_word_from-requires-clause-at c = rw (c.address-address.ensures, ← c.self.view_is) (address_in-table_map block_of c.self.inside.pages _)

pub set_word_from-requires-clause-within : goal.set_word_from-requires-clause-within
set_word_from-requires-clause-within c =
    let there = rw (← c.self.view_is) at c.requires in
    let number = has_number _ _ _ c.self.invariant.0.packed there in
    grind (arith, number_within)

pub invariant_of-self : goal.invariant_of-self
invariant_of-self c =
    let there = rw (← c.self.view_is) at c.requires in
    let number = has_number _ _ _ c.self.invariant.0.packed there in
    let count = rw (c.address-address.ensures, ← c.self.view_is) at c.reference_count_from-references.ensures.count in
    let same : c.reference_count_from-references.result ≡ reference_words (words_at c.self.inside.pages c.args.place) = count ∙ number.references in
    let written = rw (c.address-address.ensures, same) at c.set_word_from.ensures in
    rw written (number_counted _ _ _ _ _ _ number c.self.invariant.0, number_indexed _ _ _ _ _ number c.self.invariant.1)

pub returns : goal.returns
returns c =
    let there = rw (← c.self.view_is) at c.requires in
    let number = has_number _ _ _ c.self.invariant.0.packed there in
    let count = rw (c.address-address.ensures, ← c.self.view_is) at c.reference_count_from-references.ensures.count in
    let same : c.reference_count_from-references.result ≡ reference_words (words_at c.self.inside.pages c.args.place) = count ∙ number.references in
    let written = rw (c.address-address.ensures, same) at c.set_word_from.ensures in
    rw (written, ← c.self.view_is) (with_word-number _ _ _ _ number)
