use Rattle.mh_run_laws.proofs.runs.RunsByEvents.{after_more}
use Rattle.mh_run_laws.proofs.replays.machine_after_more.Goals as goal

pub returns : goal.returns
returns c = after_more
