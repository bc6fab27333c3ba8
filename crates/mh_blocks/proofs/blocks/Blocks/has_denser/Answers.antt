use Rattle.std.proofs.Common.{◌∙◌, sym}
use Rattle.mh_table_laws.proofs.PageMapLemmas.{has_denser-table_map}
use Rattle.mh_blocks.specs.Auxiliary.{block_of}
use Rattle.mh_blocks.proofs.blocks.Blocks.has_denser.Goals as goal

pub returns : goal.returns
returns c = rw (← c.self.view_is) (c.has_denser.ensures ∙ sym (has_denser-table_map block_of c.self.inside.pages _ _))
