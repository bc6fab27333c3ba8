use Rattle.mh_laws.proofs.bounds.CyclesInTime.{cycle_ends}
use Rattle.mh_laws.proofs.bounds.cycle_ends_within_its_bound.Goals as goal

pub returns : goal.returns
returns c = cycle_ends
