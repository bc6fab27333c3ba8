use Rattle.mh_laws.proofs.snapshots.RunningCycles.{continues-start}
use Rattle.mh_laws.proofs.snapshots.cycles_start_from_the_view.Goals as goal

pub returns : goal.returns
returns c = continues-start
