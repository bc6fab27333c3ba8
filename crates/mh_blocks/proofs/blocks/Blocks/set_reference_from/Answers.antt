use Rattle.mh_blocks.proofs.{IndexedLemmas.reference_indexed, AddressMap.address_in-table_map}
use Rattle.mh_blocks.proofs.InvariantLemmas.{reference_counted}
use Rattle.mh_blocks.proofs.ReadLemmas.{has_reference, reference_within, small_target}
use Rattle.mh_blocks.proofs.WriteLemmas.{with_word-reference}
use Rattle.std.proofs.Common.{◌∙◌, arith}
use Rattle.mh_blocks.specs.Auxiliary.{block_of}
use Rattle.mh_blocks.proofs.blocks.Blocks.set_reference_from.Goals as goal

pub overflow_add-index : goal.overflow_add-index
overflow_add-index c =
    let there = rw (← c.self.view_is) at c.requires.there in
    omega (arith, reference_within _ _ _ (has_reference _ _ _ c.self.invariant.0.packed there))

pub place_word-requires : goal.place_word-requires
place_word-requires c = let leads = rw (← c.self.view_is) at c.requires.leads in small_target _ _ c.self.invariant.0.packed leads

pub set_word_from-requires-clause-at : goal.set_word_from-requires-clause-at
set_word_from-requires-clause-at c = let at = rw (← c.self.view_is) at c.requires.at in at ∙ address_in-table_map block_of c.self.inside.pages _

pub set_word_from-requires-clause-within : goal.set_word_from-requires-clause-within
set_word_from-requires-clause-within c =
    let there = rw (← c.self.view_is) at c.requires.there in
    (reference_within _ _ _ (has_reference _ _ _ c.self.invariant.0.packed there)).0

pub invariant_of-self : goal.invariant_of-self
invariant_of-self c =
    let there = rw (← c.self.view_is) at c.requires.there in
    let this = has_reference _ _ _ c.self.invariant.0.packed there in
    rw c.set_word_from.ensures (reference_counted _ _ _ _ _ _ this c.self.invariant.0, reference_indexed _ _ _ _ _ this c.self.invariant.1)

pub returns : goal.returns
returns c =
    let there = rw (← c.self.view_is) at c.requires.there in
    rw (c.set_word_from.ensures, ← c.self.view_is) (with_word-reference _ _ _ _ _ (has_reference _ _ _ c.self.invariant.0.packed there) c.place_word.ensures)
