use Rattle.mh_laws.proofs.snapshots.CycleSteps.{continues-quantum}
use Rattle.mh_laws.proofs.snapshots.quanta_keep_the_snapshot.Goals as goal

pub returns : goal.returns
returns c = continues-quantum
