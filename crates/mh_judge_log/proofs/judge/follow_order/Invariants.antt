use Rattle.std.proofs.Common.{take}
use Rattle.mh_judge_log.specs.Orders.{entries_of}
use Rattle.mh_judge_sessions.specs.Watching.{HasWatched}
use Rattle.mh_judge_log.proofs.judge.follow_order.Given as goal

abbrev pub invariant-loop-timed : goal.invariant-loop-timed
invariant-loop-timed l = HasWatched l.initial.watch (entries_of (take l.timed-index l.order)) l.watch
