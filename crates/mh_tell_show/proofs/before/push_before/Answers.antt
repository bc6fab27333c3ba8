use Rattle.std.proofs.Common.{◌∙◌, ap}
use Rattle.mh_model.specs.Mutator.{HeapState}
use Rattle.mh_tell_show.proofs.TextLemmas.{before_written}
use Rattle.mh_tell_show.proofs.before.push_before.Goals as goal

pub returns : goal.returns
returns c =
    before_written c.args.number c.args.machine.now.machine _ _ _ _ _ _ _ _ _ _ _ _ (c.blocks-2.ensures ∙ ap (λ (heap : HeapState). heap.collector.table) c.heap.ensures) (ap (λ (heap : HeapState). heap.collector.grey) c.heap.ensures)
    (c.roots.ensures ∙ ap (λ (heap : HeapState). heap.collector.slots) c.heap.ensures) c.in_ok-push_str.ensures.bytes c.in_ok-push_before_row.ensures c.in_ok-push_str-2.ensures.bytes c.in_ok-push_table.ensures
    c.in_ok-push_str-3.ensures.bytes c.in_ok-push_greys.ensures c.in_ok-push_str-4.ensures.bytes c.in_ok-push_first_roots.ensures
