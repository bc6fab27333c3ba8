use Rattle.std.proofs.Common.{◌∙◌, sym}
use Rattle.mh_table_laws.proofs.PageMapLemmas.{is_taken-table_map}
use Rattle.mh_blocks.proofs.AddressMap.{address_in-table_map}
use Rattle.mh_blocks.specs.Auxiliary.{block_of}
use Rattle.mh_blocks.proofs.blocks.Blocks.address.Goals as goal

pub address-requires : goal.address-requires
address-requires c = let there = rw (← c.self.view_is) at c.requires in sym (is_taken-table_map block_of c.self.inside.pages _) ∙ there

pub returns : goal.returns
returns c = rw (← c.self.view_is) (c.address.ensures ∙ sym (address_in-table_map block_of c.self.inside.pages _))
