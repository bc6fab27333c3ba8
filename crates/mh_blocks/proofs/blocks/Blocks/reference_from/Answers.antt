use Rattle.std.proofs.Common.{◌∙◌, arith, ap}
use Rattle.mh_blocks.proofs.AddressMap.{address_in-table_map}
use Rattle.mh_blocks.proofs.ReadLemmas.{has_reference, reference_within, reference_at_is}
use Rattle.mh_blocks.specs.Auxiliary.{place_in, block_of}
use Rattle.mh_blocks.proofs.blocks.Blocks.reference_from.Goals as goal

pub overflow_add-index : goal.overflow_add-index
overflow_add-index c =
    let there = rw (← c.self.view_is) at c.requires.there in
    omega (arith, reference_within _ _ _ (has_reference _ _ _ c.self.invariant.0.packed there))

pub word_from-requires-clause-at : goal.word_from-requires-clause-at
word_from-requires-clause-at c = let at = rw (← c.self.view_is) at c.requires.at in at ∙ address_in-table_map block_of c.self.inside.pages _

pub word_from-requires-clause-within : goal.word_from-requires-clause-within
word_from-requires-clause-within c =
    let there = rw (← c.self.view_is) at c.requires.there in
    (reference_within _ _ _ (has_reference _ _ _ c.self.invariant.0.packed there)).0

pub returns : goal.returns
returns c =
    let there = rw (← c.self.view_is) at c.requires.there in
    rw (← c.self.view_is) (c.place_in.ensures ∙ ap place_in c.word_from.ensures ∙ reference_at_is _ _ _ (has_reference _ _ _ c.self.invariant.0.packed there))
