use Rattle.mh_judge_log.proofs.reason.CommandReasonDisplay.fmt.Goals as goal

pub returns-in-Time-clause-writes : goal.returns-in-Time-clause-writes
returns-in-Time-clause-writes g c = rw c.in-Time.is c.write.ensures.writes
