use Rattle.mh_paged.proofs.KeptLemmas.{kept-first}
use Rattle.mh_paged.proofs.kept.KeptHeap.open.Goals as goal

pub invariant_of-result : goal.invariant_of-result
invariant_of-result c = kept-first c.heaps_stay_kept.ensures c.collectors_stay_in_bounds.ensures c.args.config c.in_ok-open.field-0 c.in_ok-open.ensures.first
