use Rattle.mh_run_laws.proofs.windows.GrowthLemmas.{shares}
use Rattle.mh_run_laws.proofs.windows.shares_between.Goals as goal

pub returns : goal.returns
returns c = shares
