use Rattle.mh_laws.proofs.snapshots.BarrierLaws.{barriers-keep}
use Rattle.mh_laws.proofs.barriers.barriers_keep_the_snapshot.Goals as goal

pub returns : goal.returns
returns c = barriers-keep
