use Rattle.mh_seat_laws.proofs.lock.MergedLogs.{logs-merge}
use Rattle.mh_seat_laws.proofs.lock.logs_merge_to_the_history.Goals as goal

pub returns : goal.returns
returns c = logs-merge
