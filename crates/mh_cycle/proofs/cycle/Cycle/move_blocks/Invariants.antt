use Rattle.std.proofs.Common.{◌≡◌, ◌⊎◌, ◌-◌, ◌≤◌, true, false}
use Rattle.mh_model.specs.{declared.cycle.Phase.TheVariants.Defrag, Collector.forwarded_slots, Deeds.deeds_of_steps}
use Rattle.mh_roots.specs.Roots.{SlotsLead}
use Rattle.mh_deeds.specs.Auxiliary.{Leads}
use Rattle.mh_cycle.specs.Auxiliary.{with_forwarded, forwarded_state, order, is_over, IsAdvance}
use Rattle.mh_cycle.proofs.cycle.Cycle.move_blocks.Given as goal

abbrev pub invariant-loop-log : goal.invariant-loop-log
invariant-loop-log g l = record {
  advance : IsAdvance l.left l.initial.self l.spent l.has_moved (forwarded_state l.self);
  from : (order Defrag ≤ order l.self.collector.phase) ⊎ (is_over (l.left - l.spent) l.has_moved (with_forwarded l.self.collector) ≡ true);
  lead : SlotsLead l.self.collector.table l.self.collector.slots;
  still : l.has_moved ≡ false → forwarded_slots l.self.collector.table l.self.collector.slots ≡ l.self.collector.slots;
  told : Leads g.L.Log.has l.initial.log (deeds_of_steps l.left l.left false l.initial.self.collector) l.log (deeds_of_steps (l.left - l.spent) (l.left - l.spent) l.has_moved (with_forwarded l.self.collector));
}

abbrev pub decreases-loop-log : goal.decreases-loop-log
decreases-loop-log g l = l.left - l.spent
