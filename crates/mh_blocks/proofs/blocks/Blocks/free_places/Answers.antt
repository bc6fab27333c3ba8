use Rattle.std.proofs.Common.{◌∙◌, sym}
use Rattle.mh_table_laws.proofs.PageMapLemmas.{have_their_slots}
use Rattle.mh_blocks.proofs.FreePlaceLemmas.{free_places-table_map}
use Rattle.mh_blocks.specs.Auxiliary.{block_of}
use Rattle.mh_blocks.proofs.blocks.Blocks.free_places.Goals as goal

pub returns-clause-count : goal.returns-clause-count
returns-clause-count c = rw (← c.self.view_is) (c.free_places.ensures.count ∙ sym (free_places-table_map block_of c.self.inside.pages _))

pub returns-clause-slots : goal.returns-clause-slots
returns-clause-slots c = rw (← c.self.view_is) (have_their_slots block_of c.self.inside.pages c.free_places.ensures.slots)
