use Rattle.std.proofs.Common.{◌∙◌, sym}
use Rattle.mh_table_laws.proofs.{TableMapLemmas.length-table_map, PageMapLemmas.have_their_slots}
use Rattle.mh_blocks.specs.Auxiliary.{block_of}
use Rattle.mh_blocks.proofs.blocks.Blocks.len.Goals as goal

pub returns-clause-count : goal.returns-clause-count
returns-clause-count c = rw (← c.self.view_is) (c.len.ensures.count ∙ sym (length-table_map block_of c.self.inside.pages))

pub returns-clause-slots : goal.returns-clause-slots
returns-clause-slots c = rw (← c.self.view_is) (have_their_slots block_of c.self.inside.pages c.len.ensures.slots)
