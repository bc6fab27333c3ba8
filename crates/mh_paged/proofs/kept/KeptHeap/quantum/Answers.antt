use Rattle.std.proofs.Common.{refl}
use Rattle.mh_model.specs.Mutator.{HeapState}
use Rattle.mh_paged.specs.Auxiliary.{heap_of}
use Rattle.mh_paged.proofs.KeptLemmas.{kept-quantum}
use Rattle.mh_paged.proofs.kept.KeptHeap.quantum.Goals as goal

pub invariant_of-self : goal.invariant_of-self
invariant_of-self g c =
    kept-quantum c.heaps_stay_kept.ensures c.collectors_stay_in_bounds.ensures c.self.inside.cycle c.quantum.new.self c.self.inside.next_birth c.self.inside.ended c.self.invariant c.quantum.ensures.after

pub returns-clause-starts : goal.returns-clause-starts
returns-clause-starts g c =
    let heap : HeapState = heap_of c.self.inside.cycle c.self.inside.next_birth c.self.inside.ended in
    rw (← c.self.view_is) (λ idle due. c.quantum.ensures.starts heap refl refl idle due c.self.invariant.keeping.1.sound)
