use Rattle.mh_heap.specs.PlainHeap.{world_of}
use Rattle.mh_heap.proofs.ClosedLemmas.{closed_cleared}
use Rattle.mh_heap.proofs.plain.PlainHeapHeap.end.Goals as goal

pub invariant_of-self : goal.invariant_of-self
invariant_of-self c =
    record { closed = rw c.clear_slots.ensures (closed_cleared (world_of c.args.self.now) _ 16 _ c.args.self.now.closed) }
