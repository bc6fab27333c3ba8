use Rattle.mh_grey.proofs.QueueLemmas.{queue-drop}
use Rattle.mh_grey.proofs.grey.Grey.pop_first.Goals as goal

pub invariant_of-self : goal.invariant_of-self
invariant_of-self c = rw c.pop_front.ensures.items (queue-drop 1 _ _ _ c.self.invariant)
