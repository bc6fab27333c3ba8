use Rattle.mh_sweep.proofs.SlotLemmas.{mask-between}
use Rattle.mh_sweep.proofs.slots.slots_between.Goals as goal

pub returns : goal.returns
returns c = λ slot small. mask-between _ _ slot c.requires.order c.requires.few small
