use Rattle.mh_run_laws.proofs.bounds.WithinEvents.{runs_within_events}
use Rattle.mh_run_laws.proofs.bounds.runs_stay_within_their_events.Goals as goal

pub returns : goal.returns
returns c = runs_within_events
