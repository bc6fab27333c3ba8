use Rattle.std.proofs.Common.{◌∙◌, sym}
use Rattle.mh_table_laws.proofs.PageMapLemmas.{least_place-table_map, found_above}
use Rattle.mh_blocks.specs.Auxiliary.{block_of}
use Rattle.mh_blocks.proofs.blocks.Blocks.place.Goals as goal

pub returns-clause-place : goal.returns-clause-place
returns-clause-place c = rw (← c.self.view_is) (c.place.ensures.place ∙ sym (least_place-table_map block_of c.self.inside.pages _))

pub returns-clause-free : goal.returns-clause-free
returns-clause-free c = rw (← c.self.view_is) (found_above block_of c.self.inside.pages _ _ c.place.ensures.free)
