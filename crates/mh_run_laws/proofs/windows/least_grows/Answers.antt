use Rattle.mh_run_laws.proofs.windows.GrowthLemmas.{grows}
use Rattle.mh_run_laws.proofs.windows.least_grows.Goals as goal

pub returns : goal.returns
returns c = grows
