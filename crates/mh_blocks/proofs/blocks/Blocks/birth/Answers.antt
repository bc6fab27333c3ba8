use Rattle.std.proofs.Common.{◌∙◌, sym, arith}
use Rattle.mh_table_laws.proofs.PageMapLemmas.{is_taken-table_map}
use Rattle.mh_blocks.proofs.ReadLemmas.{words_there, header_within, birth_is}
use Rattle.mh_blocks.specs.Auxiliary.{block_of}
use Rattle.mh_blocks.proofs.blocks.Blocks.birth.Goals as goal

pub address-address-requires : goal.address-address-requires
address-address-requires c = let there = rw (← c.self.view_is) at c.requires in sym (is_taken-table_map block_of c.self.inside.pages _) ∙ there

pub word_from-requires-clause-within : goal.word_from-requires-clause-within
word_from-requires-clause-within c = grind (arith, header_within, words_there)

pub overflow_sub-result : goal.overflow_sub-result
overflow_sub-result c = grind (arith, words_there)

pub returns : goal.returns
returns c = grind (arith, birth_is, words_there)
