use Rattle.std.proofs.Common.{refl}
use Rattle.mh_grey.proofs.QueueLemmas.{has_room, queue-push, pushed}
use Rattle.mh_grey.proofs.grey.Grey.push.Goals as goal

pub invariant_of-self : goal.invariant_of-self
invariant_of-self c =
    let below = rw (← c.self.view_is) at c.requires.below in
    let apart = rw (← c.self.view_is) at c.requires.apart in
    rw (pushed _ _ _ c.try_push_back.ensures.variant (has_room _ _ _ _ c.self.invariant below apart) c.try_push_back.ensures.ok) (queue-push _ _ _ _ c.self.invariant below apart)

pub returns : goal.returns
returns c =
    let below = rw (← c.self.view_is) at c.requires.below in
    let apart = rw (← c.self.view_is) at c.requires.apart in
    rw (pushed _ _ _ c.try_push_back.ensures.variant (has_room _ _ _ _ c.self.invariant below apart) c.try_push_back.ensures.ok, ← c.self.view_is) refl
