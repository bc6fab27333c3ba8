use Rattle.std.proofs.Common.{arith}
use Rattle.mh_blocks.specs.Auxiliary.{block_of}
use Rattle.mh_table_laws.proofs.{TableMapLemmas.length-table_map, PageMapLemmas.is_taken-table_map}
use Rattle.mh_blocks.proofs.DeadLemmas.{dead_word}
use Rattle.mh_blocks.proofs.blocks.Blocks.dead_slots.Goals as goal

pub taken_slots-requires : goal.taken_slots-requires
taken_slots-requires c = let within = rw (← c.self.view_is) at c.requires in omega (arith, within, length-table_map block_of c.self.inside.pages)

pub returns : goal.returns
returns c = grind (arith, dead_word, is_taken-table_map)
