use Rattle.mh_laws.proofs.snapshots.BarrierLaws.{objects-keep}
use Rattle.mh_laws.proofs.barriers.objects_made_keep_the_snapshot.Goals as goal

pub returns : goal.returns
returns c = objects-keep
