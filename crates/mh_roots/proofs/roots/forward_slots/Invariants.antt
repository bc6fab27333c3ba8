use Rattle.std.proofs.Common.{◌≡◌}
use Rattle.mh_roots.proofs.SlotLemmas.{forwarded_so_far}
use Rattle.mh_roots.proofs.roots.forward_slots.Given as goal

abbrev pub invariant-loop-slot : goal.invariant-loop-slot
invariant-loop-slot l = l.slots ≡ forwarded_so_far l.blocks l.initial.slots l.slot-index
