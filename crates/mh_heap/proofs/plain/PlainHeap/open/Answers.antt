use Rattle.mh_heap.proofs.PlainLemmas.{closed_first}
use Rattle.mh_heap.proofs.plain.PlainHeap.open.Goals as goal

pub invariant_of-result : goal.invariant_of-result
invariant_of-result c = record { closed = closed_first _ _ _ c.new.ensures.items }
