use Rattle.mh_laws.proofs.snapshots.BarrierLaws.{roots-keep}
use Rattle.mh_laws.proofs.barriers.roots_written_keep_the_snapshot.Goals as goal

pub returns : goal.returns
returns c = roots-keep
