use Rattle.std.proofs.Common.{length}
use Rattle.mh_judge.proofs.FollowingLemmas.{Following}
use Rattle.mh_judge.proofs.following.follow_lines.Given as goal

abbrev pub invariant-loop-entry : goal.invariant-loop-entry
invariant-loop-entry g l = Following (g.F.Follower.of_line l.initial.follower) g.F.Follower.of_line (g.F.Follower.follows l.initial.follower) l.initial.lines l.lines l.follower

abbrev pub decreases-loop-entry : goal.decreases-loop-entry
decreases-loop-entry g l = length l.lines.lines
