use Rattle.mh_run_laws.proofs.windows.FloorLemmas.{one_decides}
use Rattle.mh_run_laws.proofs.windows.one_window_decides.Goals as goal

pub returns : goal.returns
returns c = one_decides
