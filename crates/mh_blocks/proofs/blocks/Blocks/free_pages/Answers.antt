use Rattle.std.proofs.Common.{◌∙◌, sym}
use Rattle.mh_table_laws.proofs.PageMapLemmas.{free_pages-table_map}
use Rattle.mh_blocks.specs.Auxiliary.{block_of}
use Rattle.mh_blocks.proofs.blocks.Blocks.free_pages.Goals as goal

pub returns : goal.returns
returns c = rw (← c.self.view_is) (c.free_pages.ensures ∙ sym (free_pages-table_map block_of c.self.inside.pages))
