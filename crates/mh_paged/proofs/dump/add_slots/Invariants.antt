use Rattle.std.proofs.Common.{◌≡◌, ◌++◌, drop}
use Rattle.mh_model.specs.Machine.{dump_slots}
use Rattle.mh_paged.specs.Auxiliary.{slots_at}
use Rattle.mh_paged.proofs.dump.add_slots.Given as goal

abbrev pub invariant-loop-slot : goal.invariant-loop-slot
invariant-loop-slot l = l.items.items ++ dump_slots l.slot (drop l.slot (slots_at l.blocks l.page)) ≡ l.initial.items.items ++ dump_slots 0 (slots_at l.blocks l.page)
