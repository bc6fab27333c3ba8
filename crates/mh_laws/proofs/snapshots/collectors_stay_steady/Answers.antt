use Rattle.mh_laws.proofs.snapshots.SteadyStates.{collectors-steady}
use Rattle.mh_laws.proofs.snapshots.collectors_stay_steady.Goals as goal

pub returns : goal.returns
returns c = collectors-steady
