use Rattle.std.proofs.Common.{◌∙◌}
use Rattle.mh_sweep.proofs.SlotLemmas.{has_bit-and, both-between}
use Rattle.mh_sweep.proofs.slots.dead_between.Goals as goal

pub returns : goal.returns
returns c = λ slot small. has_bit-and _ _ slot ∙ both-between _ _ _ _ (c.dead_slots.ensures slot small) (c.slots_between.ensures slot small)
