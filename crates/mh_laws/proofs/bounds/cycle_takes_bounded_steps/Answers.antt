use Rattle.mh_laws.proofs.bounds.StepsOfACycle.{cycle_takes}
use Rattle.mh_laws.proofs.bounds.cycle_takes_bounded_steps.Goals as goal

pub returns : goal.returns
returns c = cycle_takes
