use Rattle.mh_grey.proofs.QueueLemmas.{queue-open}
use Rattle.mh_grey.proofs.grey.Grey.open.Goals as goal

pub invariant_of-result : goal.invariant_of-result
invariant_of-result c = rw c.in_ok-places.ensures (queue-open c.args.pages c.requires)
