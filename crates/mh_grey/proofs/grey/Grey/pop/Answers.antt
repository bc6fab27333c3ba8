use Rattle.mh_grey.proofs.QueueLemmas.{queue-drop}
use Rattle.mh_grey.proofs.grey.Grey.pop.Goals as goal

pub invariant_of-self : goal.invariant_of-self
invariant_of-self c = rw c.truncate_front.ensures (queue-drop _ _ _ _ c.self.invariant)
