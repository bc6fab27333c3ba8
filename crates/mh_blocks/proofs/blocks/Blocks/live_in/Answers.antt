use Rattle.std.proofs.Common.{◌∙◌, sym, arith}
use Rattle.mh_table_laws.proofs.{TableMapLemmas.length-table_map, PageMapLemmas.count_at-table_map}
use Rattle.mh_blocks.specs.Auxiliary.{block_of}
use Rattle.mh_blocks.proofs.blocks.Blocks.live_in.Goals as goal

pub live_in-requires : goal.live_in-requires
live_in-requires c = grind (arith, length-table_map)

pub returns-clause-count : goal.returns-clause-count
returns-clause-count c = rw (← c.self.view_is) (c.live_in.ensures.count ∙ sym (count_at-table_map block_of c.self.inside.pages _))
