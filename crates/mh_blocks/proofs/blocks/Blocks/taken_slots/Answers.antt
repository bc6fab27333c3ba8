use Rattle.std.proofs.Common.{◌∙◌, sym, arith}
use Rattle.mh_blocks.specs.Auxiliary.{block_of}
use Rattle.mh_table_laws.proofs.{TableMapLemmas.length-table_map, PageMapLemmas.is_taken-table_map}
use Rattle.mh_blocks.proofs.blocks.Blocks.taken_slots.Goals as goal

pub taken_slots-requires : goal.taken_slots-requires
taken_slots-requires c = let within = rw (← c.self.view_is) at c.requires in omega (arith, within, length-table_map block_of c.self.inside.pages)

pub returns : goal.returns
returns c = λ slot small. rw (← c.self.view_is) (c.taken_slots.ensures slot small ∙ sym (is_taken-table_map block_of c.self.inside.pages _))
