use Rattle.std.proofs.Common.{◌-◌, false}
use Rattle.mh_model.specs.{declared.cycle.Phase.TheVariants.Mark, Deeds.deeds_of_steps}
use Rattle.mh_deeds.specs.Auxiliary.{Leads}
use Rattle.mh_cycle.specs.Auxiliary.{IsFrom, IsMarkingTurn}
use Rattle.mh_cycle.proofs.cycle.Cycle.mark_alone.Given as goal

abbrev pub invariant-loop-self : goal.invariant-loop-self
invariant-loop-self g l = record {
  turn : IsMarkingTurn l.left l.initial.self l.spent l.self;
  from : IsFrom Mark (l.left - l.spent) l.self.collector;
  told : Leads g.L.Log.has l.initial.log (deeds_of_steps l.left l.left false l.initial.self.collector) l.log (deeds_of_steps (l.left - l.spent) (l.left - l.spent) false l.self.collector);
}

abbrev pub decreases-loop-self : goal.decreases-loop-self
decreases-loop-self g l = l.left - l.spent
