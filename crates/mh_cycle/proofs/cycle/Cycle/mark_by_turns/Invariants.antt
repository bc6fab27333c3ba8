use Rattle.std.proofs.Common.{◌-◌, false}
use Rattle.mh_model.specs.declared.cycle.Phase.TheVariants.{Mark}
use Rattle.mh_cycle.specs.Auxiliary.{IsFrom, IsAdvance}
use Rattle.mh_cycle.proofs.cycle.Cycle.mark_by_turns.Given as goal

abbrev pub invariant-loop-self : goal.invariant-loop-self
invariant-loop-self g l = record { advance : IsAdvance l.left l.initial.self l.spent false l.self; from : IsFrom Mark (l.left - l.spent) l.self.collector }

abbrev pub decreases-loop-self : goal.decreases-loop-self
decreases-loop-self g l = l.left - l.spent
