use Rattle.mh_blocks.proofs.{IndexedLemmas.stamp_indexed, AddressMap.address_in-table_map}
use Rattle.mh_blocks.proofs.{InvariantLemmas.stamp_counted, ReadLemmas.{words_there, header_within}}
use Rattle.mh_blocks.proofs.WriteLemmas.{with_word-stamp}
use Rattle.std.proofs.Common.{◌∙◌, ap, arith}
use Rattle.mh_blocks.specs.Auxiliary.{block_of}
use Rattle.mh_blocks.proofs.blocks.Blocks.set_stamp_from.Goals as goal

pub set_word_from-requires-clause-at : goal.set_word_from-requires-clause-at
set_word_from-requires-clause-at c = let at = rw (← c.self.view_is) at c.requires.at in at ∙ address_in-table_map block_of c.self.inside.pages _

pub set_word_from-requires-clause-within : goal.set_word_from-requires-clause-within
set_word_from-requires-clause-within c = grind (arith, header_within, words_there)

pub invariant_of-self : goal.invariant_of-self
invariant_of-self c = let there = rw (← c.self.view_is) at c.requires.there in rw (c.set_word_from.ensures, c.stamp.ensures, ap (λ address. address.place) c.address.view_is) (stamp_counted _ _ _ _ _ there c.self.invariant.0, stamp_indexed _ _ _ _ c.self.invariant.0.packed there c.self.invariant.1)

pub returns : goal.returns
returns c = rw (c.set_word_from.ensures, ← c.self.view_is) (with_word-stamp _ _ _ c.self.invariant.0.packed)
