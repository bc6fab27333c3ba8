use Rattle.mh_run_laws.proofs.runs.RunsByEvents.{replies_more}
use Rattle.mh_run_laws.proofs.replays.machine_replies_more.Goals as goal

pub returns : goal.returns
returns c = replies_more
