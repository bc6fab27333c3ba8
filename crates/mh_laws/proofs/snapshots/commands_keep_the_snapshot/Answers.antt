use Rattle.mh_laws.proofs.snapshots.SessionCommands.{snapshot-mutator_step}
use Rattle.mh_laws.proofs.snapshots.commands_keep_the_snapshot.Goals as goal

pub returns : goal.returns
returns c = snapshot-mutator_step
