use Rattle.std.proofs.Common.{◌≡◌, ◌+◌, ◌-◌}
use Rattle.mh_model.specs.World.{cleared}
use Rattle.mh_heap.proofs.plain.clear_slots.Given as goal

abbrev pub invariant-loop-slot : goal.invariant-loop-slot
invariant-loop-slot l = cleared l.slots l.slot (l.first + 16 - l.slot) ≡ cleared l.initial.slots l.first 16
