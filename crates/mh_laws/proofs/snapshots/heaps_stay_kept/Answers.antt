use Rattle.mh_laws.proofs.snapshots.SteadyStates.{heaps-kept}
use Rattle.mh_laws.proofs.snapshots.heaps_stay_kept.Goals as goal

pub returns : goal.returns
returns c = heaps-kept
