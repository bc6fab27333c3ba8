use Rattle.std.proofs.Common.{◌<◌, length, refl, ap, ◌∙◌, arith}
use Rattle.mh_model.specs.Table.{references_at}
use Rattle.mh_grey.specs.Queue.{Queue}
use Rattle.mh_mark.proofs.{ReferenceLemmas.same_address, MarkLemmas.{marking-starts, marking-goes_on}}
use Rattle.mh_mark.proofs.{KeptLemmas.{kept-refl, marked-kept}, ToldLemmas.leads-reference}
use Rattle.mh_mark.proofs.mark.mark_references.Goals as goal

pub mark_edge-requires-clause-at : goal.mark_edge-requires-clause-at
mark_edge-requires-clause-at g c = c.requires.at ∙ same_address _ _ _ c.loop-index.invariant.kept.classes

pub mark_edge-requires-clause-there : goal.mark_edge-requires-clause-there
mark_edge-requires-clause-there g c = omega (arith, c.requires.all, c.loop-index.invariant.on.long)

pub mark_edge-requires-clause-home : goal.mark_edge-requires-clause-home
mark_edge-requires-clause-home g c = c.loop-index.invariant.on.lead c.loop-index.index (omega arith) (omega (arith, c.requires.all))

pub loop-index-init : goal.loop-index-init
loop-index-init g c = record { on = marking-starts _ _ c.requires.there c.requires.lead c.requires.marked; kept = kept-refl _; told = λ end rest. rest; pages = refl }

pub loop-index-preserved : goal.loop-index-preserved
loop-index-preserved g c =
    let below : c.loop-index.index < length (references_at c.args.blocks.now c.args.address.place) = omega (arith, c.requires.all) in
    record {
      on = rw (c.mark_edge.ensures.table, c.mark_edge.ensures.grey) (marking-goes_on _ _ _ _ c.loop-index.invariant.on below);
      kept = rw (c.mark_edge.ensures.table, c.mark_edge.ensures.grey) (marked-kept _ _ _ _ c.loop-index.invariant.on below c.loop-index.invariant.kept);
      told = leads-reference g.L.Log.has _ _ _ _ c.loop-index.invariant.on below _ _ _ _ _ _ c.loop-index.invariant.told c.mark_edge.ensures.table (ap (λ (q : Queue). q.places) c.mark_edge.ensures.grey) c.mark_edge.ensures.told;
      pages = rw c.mark_edge.ensures.grey c.loop-index.invariant.pages;
    }
