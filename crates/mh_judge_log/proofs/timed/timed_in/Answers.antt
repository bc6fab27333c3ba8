use Rattle.std.proofs.Common.{sym}
use Rattle.mh_judge_log.proofs.TimedLemmas.{no_times}
use Rattle.mh_judge_log.proofs.timed.timed_in.Goals as goal

pub returns-in_default-clause-read : goal.returns-in_default-clause-read
returns-in_default-clause-read c = sym (no_times _ c.in_default.ensures.none)
