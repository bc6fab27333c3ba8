use Rattle.std.proofs.Common.{◌∙◌, sym, arith}
use Rattle.mh_table_laws.proofs.{TableMapLemmas.length-table_map, PageMapLemmas.flag_at-table_map}
use Rattle.mh_blocks.specs.Auxiliary.{block_of}
use Rattle.mh_blocks.proofs.blocks.Blocks.is_flagged.Goals as goal

pub is_flagged-requires : goal.is_flagged-requires
is_flagged-requires c = grind (arith, length-table_map)

pub returns : goal.returns
returns c = rw (← c.self.view_is) (c.is_flagged.ensures ∙ sym (flag_at-table_map block_of c.self.inside.pages _))
