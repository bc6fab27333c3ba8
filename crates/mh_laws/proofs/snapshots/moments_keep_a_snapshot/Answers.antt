use Rattle.mh_laws.proofs.snapshots.RunningCycles.{moments_keep}
use Rattle.mh_laws.proofs.snapshots.moments_keep_a_snapshot.Goals as goal

pub returns : goal.returns
returns c = moments_keep
