use Rattle.std.proofs.Common.{◌∙◌, sym}
use Rattle.mh_table_laws.proofs.PageMapLemmas.{is_taken-table_map}
use Rattle.mh_blocks.specs.Auxiliary.{block_of}
use Rattle.mh_blocks.proofs.blocks.Blocks.is_taken.Goals as goal

pub returns : goal.returns
returns c = rw (← c.self.view_is) (c.is_taken.ensures ∙ sym (is_taken-table_map block_of c.self.inside.pages _))
