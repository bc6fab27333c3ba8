use Rattle.mh_blocks.proofs.{IndexedLemmas.freed_indexed, InvariantLemmas.freed_counted}
use Rattle.std.proofs.Common.{◌∙◌, sym}
use Rattle.mh_table_laws.proofs.{TableMapLemmas.freed-table_map, PageMapLemmas.{is_used-table_map, count_at-table_map}}
use Rattle.mh_blocks.specs.Auxiliary.{block_of}
use Rattle.mh_blocks.proofs.blocks.Blocks.free_page.Goals as goal

pub free_page-requires-clause-used : goal.free_page-requires-clause-used
free_page-requires-clause-used c = let used = rw (← c.self.view_is) at c.requires.used in sym (is_used-table_map block_of c.self.inside.pages _) ∙ used

pub free_page-requires-clause-empty : goal.free_page-requires-clause-empty
free_page-requires-clause-empty c = let empty = rw (← c.self.view_is) at c.requires.empty in sym (count_at-table_map block_of c.self.inside.pages _) ∙ empty

pub invariant_of-self : goal.invariant_of-self
invariant_of-self c = let empty = rw (← c.self.view_is) at c.requires.empty in rw c.free_page.ensures (freed_counted _ _ _ _ empty c.self.invariant.0, freed_indexed _ _ _ empty c.self.invariant.1)

pub returns : goal.returns
returns c = rw (c.free_page.ensures, ← c.self.view_is) (freed-table_map block_of c.self.inside.pages _)
