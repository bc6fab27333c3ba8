use Rattle.std.proofs.Common.{◌-◌, false}
use Rattle.mh_model.specs.{declared.cycle.Phase.TheVariants.Sweep, Deeds.deeds_of_steps}
use Rattle.mh_deeds.specs.Auxiliary.{Leads}
use Rattle.mh_cycle.specs.Auxiliary.{IsFrom, IsAdvance}
use Rattle.mh_cycle.proofs.cycle.Cycle.sweep.Given as goal

abbrev pub invariant-loop-self : goal.invariant-loop-self
invariant-loop-self g l = record {
  advance : IsAdvance l.left l.initial.self l.spent false l.self;
  from : IsFrom Sweep (l.left - l.spent) l.self.collector;
  told : Leads g.L.Log.has l.initial.log (deeds_of_steps l.left l.left false l.initial.self.collector) l.log (deeds_of_steps (l.left - l.spent) (l.left - l.spent) false l.self.collector);
}

abbrev pub decreases-loop-self : goal.decreases-loop-self
decreases-loop-self g l = l.left - l.spent
