use Rattle.mh_run_laws.proofs.windows.StretchLemmas.{stretches_have_least}
use Rattle.mh_run_laws.proofs.windows.least_is_of_stretches.Goals as goal

pub returns : goal.returns
returns c = stretches_have_least
