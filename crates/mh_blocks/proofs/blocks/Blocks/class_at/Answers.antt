use Rattle.std.proofs.Common.{◌∙◌, sym, arith}
use Rattle.mh_table_laws.proofs.{TableMapLemmas.length-table_map, PageMapLemmas.class_at-table_map}
use Rattle.mh_blocks.specs.Auxiliary.{block_of}
use Rattle.mh_blocks.proofs.blocks.Blocks.class_at.Goals as goal

pub class_at-requires : goal.class_at-requires
class_at-requires c = grind (arith, length-table_map)

pub returns : goal.returns
returns c = rw (← c.self.view_is) (c.class_at.ensures ∙ sym (class_at-table_map block_of c.self.inside.pages _))
