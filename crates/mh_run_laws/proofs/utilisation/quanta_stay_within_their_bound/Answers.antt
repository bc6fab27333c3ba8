use Rattle.mh_run_laws.proofs.trace.RunTraces.{quanta_within}
use Rattle.mh_run_laws.proofs.utilisation.quanta_stay_within_their_bound.Goals as goal

pub returns : goal.returns
returns c = quanta_within
