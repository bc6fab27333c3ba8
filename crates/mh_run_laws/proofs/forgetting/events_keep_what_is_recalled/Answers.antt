use Rattle.mh_run_laws.proofs.forgetting.RecallLemmas.{events_keep}
use Rattle.mh_run_laws.proofs.forgetting.events_keep_what_is_recalled.Goals as goal

pub returns : goal.returns
returns c = events_keep
