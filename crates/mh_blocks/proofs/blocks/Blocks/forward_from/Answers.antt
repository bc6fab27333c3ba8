use Rattle.std.proofs.Common.{◌∙◌, arith}
use Rattle.mh_blocks.proofs.{AddressMap.address_in-table_map, ReadLemmas.{words_there, header_within, forward_is}}
use Rattle.mh_blocks.specs.Auxiliary.{block_of}
use Rattle.mh_blocks.proofs.blocks.Blocks.forward_from.Goals as goal

pub word_from-requires-clause-at : goal.word_from-requires-clause-at
word_from-requires-clause-at c = let at = rw (← c.self.view_is) at c.requires.at in at ∙ address_in-table_map block_of c.self.inside.pages _

pub word_from-requires-clause-within : goal.word_from-requires-clause-within
word_from-requires-clause-within c = grind (arith, header_within, words_there)

pub returns : goal.returns
returns c = grind (arith, forward_is, words_there)
