use Rattle.mh_run_laws.proofs.trace.RunTraces.{mutator_share}
use Rattle.mh_run_laws.proofs.utilisation.mutator_has_its_share.Goals as goal

pub returns : goal.returns
returns c = mutator_share
