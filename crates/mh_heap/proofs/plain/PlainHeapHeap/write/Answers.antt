use Rattle.std.proofs.{Common.arith, lemmas.Grind.common_steps}
use Rattle.mh_model.specs.World.{heap_step, with_number}
use Rattle.mh_heap.proofs.PlainLemmas.{closed_number, map_change}
use Rattle.mh_heap.proofs.plain.PlainHeapHeap.write.Goals as goal

pub invariant_of-self : goal.invariant_of-self
invariant_of-self c = record { closed = closed_number _ _ _ _ _ _ _ _ _ c.args.self.now.closed c.in_ok-birth.ensures.there c.index_mut.ensures.value c.set_number.ensures }

pub returns : goal.returns
unfolding heap_step
returns c =
    let changed = map_change _ _ (with_number c.in_ok-index.index c.args.number) _ c.in_ok-birth.ensures.there c.index_mut.ensures.value in
    grind (arith, common_steps)
