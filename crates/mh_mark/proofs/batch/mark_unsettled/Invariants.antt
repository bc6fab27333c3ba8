use Rattle.std.proofs.Common.{◌≡◌}
use Rattle.mh_grey.specs.Shading.{marking}
use Rattle.mh_mark.proofs.KeptLemmas.{IsBlocksOn}
use Rattle.mh_mark.proofs.batch.mark_unsettled.Given as goal

abbrev pub invariant-loop-index : goal.invariant-loop-index
invariant-loop-index l = record {
  on : IsBlocksOn (marking l.initial.blocks l.initial.grey.places l.cycle) l.batch (marking l.blocks l.grey.places l.cycle) l.index;
  pages : l.grey.pages ≡ l.initial.grey.pages;
}
