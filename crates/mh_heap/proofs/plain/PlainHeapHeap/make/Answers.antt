use Rattle.std.proofs.Common.{arith}
use Rattle.mh_heap.proofs.PlainLemmas.{closed_pushed, closed_made}
use Rattle.mh_heap.proofs.plain.PlainHeapHeap.make.Goals as goal

pub invariant_of-self : goal.invariant_of-self
invariant_of-self c = record { closed = closed_pushed _ _ _ _ _ _ _ _ _ c.args.self.now.closed c.in_ok-object.ensures c.push.ensures.items }

pub invariant_of-self-2 : goal.invariant_of-self-2
invariant_of-self-2 c = record { closed = closed_made _ _ _ _ _ _ _ _ _ _ c.args.self.now.closed c.in_ok-object.ensures c.in_ok-push.ensures.items (omega arith) }
