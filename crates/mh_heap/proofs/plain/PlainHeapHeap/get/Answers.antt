use Rattle.std.proofs.{Common.{◌≡◌, None, get_or, arith}, lemmas.Grind.common_steps}
use Rattle.mh_heap.proofs.PlainLemmas.{closed_got}
use Rattle.mh_heap.proofs.plain.PlainHeapHeap.get.Goals as goal

pub invariant_of-self : goal.invariant_of-self
invariant_of-self c =
    let read : c.index-name.result.now ≡ get_or c.in_ok-object.object.now.references c.in_ok-field.field None = grind (arith, common_steps) in
    record { closed = closed_got _ _ _ _ _ _ _ _ _ c.args.self.now.closed c.in_ok-object.ensures read }
