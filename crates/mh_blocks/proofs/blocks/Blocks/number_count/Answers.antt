use Rattle.std.proofs.Common.{◌∙◌, sym, arith}
use Rattle.mh_table_laws.proofs.PageMapLemmas.{is_taken-table_map}
use Rattle.mh_blocks.proofs.ReadLemmas.{words_there, header_within, number_count_is}
use Rattle.mh_blocks.specs.Auxiliary.{block_of}
use Rattle.mh_blocks.proofs.blocks.Blocks.number_count.Goals as goal

pub address-address-requires : goal.address-address-requires
address-address-requires c = let there = rw (← c.self.view_is) at c.requires in sym (is_taken-table_map block_of c.self.inside.pages _) ∙ there

pub word_from-requires-clause-within : goal.word_from-requires-clause-within
word_from-requires-clause-within c = grind (arith, header_within, words_there)

pub returns : goal.returns
returns c = grind (arith, number_count_is, words_there)
