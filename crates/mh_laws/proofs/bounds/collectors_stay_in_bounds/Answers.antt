use Rattle.mh_laws.proofs.bounds.CyclesInTime.{collectors-in_bounds}
use Rattle.mh_laws.proofs.bounds.collectors_stay_in_bounds.Goals as goal

pub returns : goal.returns
returns c = collectors-in_bounds
