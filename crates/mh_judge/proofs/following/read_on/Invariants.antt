use Rattle.std.proofs.Common.{length}
use Rattle.mh_judge.proofs.FollowingLemmas.{HasRead}
use Rattle.mh_judge.proofs.following.read_on.Given as goal

abbrev pub invariant-loop : goal.invariant-loop
invariant-loop g l = HasRead (g.F.Follower.of_line l.follower) l.initial.lines l.lines

abbrev pub decreases-loop : goal.decreases-loop
decreases-loop g l = length l.lines.lines
