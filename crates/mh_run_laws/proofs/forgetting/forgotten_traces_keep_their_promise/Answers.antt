use Rattle.mh_run_laws.proofs.forgetting.EndLemmas.{reports_keep}
use Rattle.mh_run_laws.proofs.forgetting.forgotten_traces_keep_their_promise.Goals as goal

pub returns : goal.returns
returns c = reports_keep
