use Rattle.mh_sweep.proofs.SlotLemmas.{IsFreeingOn}
use Rattle.mh_sweep.proofs.slots.sweep_slots.Given as goal

abbrev pub invariant-loop-left : goal.invariant-loop-left
invariant-loop-left l = IsFreeingOn l.cycle l.initial.blocks l.fn.place l.count l.blocks l.left

abbrev pub decreases-loop-left : goal.decreases-loop-left
decreases-loop-left l = l.left
