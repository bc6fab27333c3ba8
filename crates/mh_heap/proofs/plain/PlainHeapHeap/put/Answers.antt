use Rattle.std.proofs.{Common.{◌≡◌, None, get_or, arith}, lemmas.Grind.common_steps}
use Rattle.mh_model.specs.World.{heap_step, with_reference}
use Rattle.mh_heap.proofs.PlainLemmas.{closed_reference, map_change, shown_at}
use Rattle.mh_heap.proofs.plain.PlainHeapHeap.put.Goals as goal

pub returns-in_err-field : goal.returns-in_err-field
unfolding heap_step
returns-in_err-field c = grind (arith, shown_at, common_steps)

pub invariant_of-self : goal.invariant_of-self
invariant_of-self c =
    let slots = c.args.self.now.slots in
    let named : get_or slots c.in_ok-value.value c.index-self-value.result ≡ get_or slots c.in_ok-value.value None = grind (arith, common_steps) in
    record { closed = closed_reference _ _ _ _ _ _ _ _ _ _ c.args.self.now.closed c.in_ok-birth.ensures.there c.index_mut.ensures.value c.set_reference.ensures named }

pub returns : goal.returns
unfolding heap_step
returns c =
    let slots = c.args.self.now.slots in
    let named : get_or slots c.in_ok-value.value c.index-self-value.result ≡ get_or slots c.in_ok-value.value None = grind (arith, common_steps) in
    let changed = map_change _ _ (with_reference c.in_ok-field.field (get_or slots c.in_ok-value.value c.index-self-value.result)) _ c.in_ok-birth.ensures.there c.index_mut.ensures.value in
    grind (arith, common_steps)
