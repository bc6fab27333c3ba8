use Rattle.mh_blocks.proofs.{IndexedLemmas.empty_indexed, PackedLemmas.empty_blocks, InvariantLemmas.empty_counted}
use Rattle.std.proofs.Common.{◌∙◌, ap}
use Rattle.mh_blocks.specs.Auxiliary.{block_table}
use Rattle.mh_blocks.proofs.blocks.Blocks.open.Goals as goal

pub invariant_of-result : goal.invariant_of-result
invariant_of-result c = rw (c.in_ok-pages.ensures {u = tt}, c.in_ok-index.ensures {u = tt}) (empty_counted _ c.requires, empty_indexed _)

pub returns : goal.returns
returns c = ap block_table (c.in_ok-pages.ensures {u = tt}) ∙ empty_blocks _
