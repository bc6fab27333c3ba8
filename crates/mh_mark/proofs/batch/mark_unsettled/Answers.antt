use Rattle.std.proofs.{Common.{arith, ◌∙◌, ap, refl}, lemmas.List.get_or_default}
use Rattle.mh_mark.proofs.KeptLemmas.{kept-refl, blocks-goes, blocks-skips, settled-at}
use Rattle.mh_mark.proofs.batch.mark_unsettled.Goals as goal

pub loop-index-init : goal.loop-index-init
loop-index-init c = record { on = record { same = refl; kept = kept-refl _ }; pages = refl }

pub mark_block-requires-clause-lead : goal.mark_block-requires-clause-lead
mark_block-requires-clause-lead c =
    let at = c.index-batch-index.is ∙ get_or_default _ _ _ 0 c.loop-index-test.true in
    rw at (c.loop-index.invariant.on.kept.lead _ (c.requires.markable c.loop-index.index c.loop-index-test.true).lead)

pub loop-index-preserved : goal.loop-index-preserved
loop-index-preserved c =
    let at = c.index-batch-index.is ∙ get_or_default _ _ _ 0 c.loop-index-test.true in
    let table = rw at at c.mark_block.ensures.table in
    let grey = rw at at c.mark_block.ensures.grey in
    record {
      on = blocks-goes _ _ _ _ _ _ c.loop-index.invariant.on c.loop-index-test.true table (ap (λ g. g.places) grey) c.mark_block.ensures.kept;
      pages = ap (λ g. g.pages) c.mark_block.ensures.grey ∙ c.loop-index.invariant.pages;
    }

pub loop-index-preserved-then-settled-index : goal.loop-index-preserved-then-settled-index
loop-index-preserved-then-settled-index c = grind (arith, blocks-skips, settled-at)
