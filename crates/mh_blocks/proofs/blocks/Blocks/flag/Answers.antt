use Rattle.mh_blocks.proofs.{IndexedLemmas.flagged_indexed, InvariantLemmas.flagged_counted}
use Rattle.std.proofs.Common.{◌∙◌, sym}
use Rattle.mh_table_laws.proofs.{TableMapLemmas.with_flag-table_map, PageMapLemmas.is_used-table_map}
use Rattle.mh_blocks.specs.Auxiliary.{block_of}
use Rattle.mh_blocks.proofs.blocks.Blocks.flag.Goals as goal

pub flag-requires : goal.flag-requires
flag-requires c = let used = rw (← c.self.view_is) at c.requires in sym (is_used-table_map block_of c.self.inside.pages _) ∙ used

pub invariant_of-self : goal.invariant_of-self
invariant_of-self c = rw c.flag.ensures (flagged_counted _ _ _ _ _ c.self.invariant.0, flagged_indexed _ _ _ _ c.self.invariant.1)

pub returns : goal.returns
returns c = rw (c.flag.ensures, ← c.self.view_is) (with_flag-table_map block_of c.self.inside.pages _ _)
