use Rattle.std.proofs.Common.{◌∙◌, ap, is_some, not}
use Rattle.std.specs.List.{list_all}
use Rattle.mh_judge_log.proofs.PendingLemmas.{all_empty}
use Rattle.mh_judge_log.proofs.pending.Pending.is_empty.Goals as goal

pub returns : goal.returns
returns c = rw (← c.self.view_is) (all_empty c.self.inside.slots.items c.are_empty.result (c.are_empty.ensures ∙ ap (list_all (λ slot. not (is_some slot))) c.deref.ensures.value))
