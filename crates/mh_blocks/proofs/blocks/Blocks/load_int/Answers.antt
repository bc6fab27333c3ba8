use Rattle.std.proofs.Common.{arith}
use Rattle.mh_blocks.proofs.{AddressMap.address_in-table_map, ReadLemmas.{has_number, number_within, number_at_is}}
use Rattle.mh_blocks.specs.Auxiliary.{block_of}
use Rattle.mh_blocks.proofs.blocks.Blocks.load_int.Goals as goal

pub overflow_add-references-2 : goal.overflow_add-references-2
overflow_add-references-2 c =
    let there = rw (← c.self.view_is) at c.requires in
    let number = has_number _ _ _ c.self.invariant.0.packed there in
    grind (arith, number_within)

pub word_from-requires-clause-at : goal.word_from-requires-clause-at
word_from-requires-clause-at c = rw (c.address-address.ensures, ← c.self.view_is) (address_in-table_map block_of c.self.inside.pages _)

pub word_from-requires-clause-within : goal.word_from-requires-clause-within
word_from-requires-clause-within c =
    let there = rw (← c.self.view_is) at c.requires in
    let number = has_number _ _ _ c.self.invariant.0.packed there in
    grind (arith, number_within)

pub returns : goal.returns
returns c =
    let there = rw (← c.self.view_is) at c.requires in
    let number = has_number _ _ _ c.self.invariant.0.packed there in
    grind (arith, number_at_is)
