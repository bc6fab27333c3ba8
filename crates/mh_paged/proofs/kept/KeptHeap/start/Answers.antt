use Rattle.mh_paged.proofs.KeptLemmas.{kept-asked}
use Rattle.mh_paged.proofs.kept.KeptHeap.start.Goals as goal

pub invariant_of-self : goal.invariant_of-self
invariant_of-self c =
    kept-asked c.heaps_stay_kept.ensures c.collectors_stay_in_bounds.ensures c.self.inside.cycle c.start.new.self c.self.inside.next_birth c.self.inside.ended c.self.invariant c.start.ensures.asked
