use Rattle.std.proofs.Common.{◌∙◌, arith}
use Rattle.mh_blocks.proofs.AddressMap.{address_in-table_map}
use Rattle.mh_blocks.proofs.ReadLemmas.{words_there, header_within, reference_count_is, few_references}
use Rattle.mh_blocks.specs.Auxiliary.{block_of}
use Rattle.mh_blocks.proofs.blocks.Blocks.reference_count_from.Goals as goal

pub word_from-requires-clause-at : goal.word_from-requires-clause-at
word_from-requires-clause-at c = let at = rw (← c.self.view_is) at c.requires.at in at ∙ address_in-table_map block_of c.self.inside.pages _

pub word_from-requires-clause-within : goal.word_from-requires-clause-within
word_from-requires-clause-within c = grind (arith, header_within, words_there)

pub returns-clause-count : goal.returns-clause-count
returns-clause-count c = grind (arith, reference_count_is, words_there)

pub returns-clause-few : goal.returns-clause-few
returns-clause-few c = grind (arith, few_references, words_there)
