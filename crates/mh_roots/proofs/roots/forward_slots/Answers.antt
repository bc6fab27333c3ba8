use Rattle.std.proofs.Common.{Some, rules}
use Rattle.mh_roots.proofs.SlotLemmas.{slot-leads, slot-forwarded, slot-empty}
use Rattle.mh_roots.proofs.roots.forward_slots.Goals.{in-Some, in_default}
use Rattle.mh_roots.proofs.roots.forward_slots.Goals as goal

pub resolve-requires : goal.resolve-requires
resolve-requires c = slot-leads _ _ _ _ _ _ c.requires c.loop-slot-test.true c.loop-slot.invariant c.in-Some.is

pub loop-slot-preserved : goal.loop-slot-preserved
loop-slot-preserved c = elim c.match-slot.branch [
  | in-Some w ↦ rw (w.slots-is, w.resolve.ensures) (slot-forwarded _ _ _ _ _ (Some w.in-Some.place) c.loop-slot-test.true c.loop-slot.invariant w.in-Some.is)
  | in_default w ↦ rw w.slots-is (slot-empty _ _ _ _ _ c.loop-slot-test.true c.loop-slot.invariant (search rules))
]
