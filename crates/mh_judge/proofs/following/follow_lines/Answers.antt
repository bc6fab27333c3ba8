use Rattle.std.proofs.lemmas.Result.{err_from_is_err_and}
use Rattle.mh_text.proofs.ErrorLemmas.{same_error}
use Rattle.mh_judge.proofs.FollowingLemmas.{begins_by, begins_taken, following_more, found_bad}
use Rattle.mh_judge.proofs.following.follow_lines.Goals as goal

pub returns-in_err-entry-clause-memory : goal.returns-in_err-entry-clause-memory
returns-in_err-entry-clause-memory g c =
    let p = err_from_is_err_and c.from_residual.result c.from_residual.ensures.1 in
    rw (p.1, p.2) (λ is. begins_by c.loop-entry.invariant (c.in_err-entry.ensures.memory (same_error _ _ is)))

pub returns-in_err-bad-clause-memory : goal.returns-in_err-bad-clause-memory
returns-in_err-bad-clause-memory g c = λ _. begins_taken c.loop-entry.invariant _ _ (rw c.in-Some.is at c.in_ok-entry.ensures.taken)

pub returns-in_err-read_on-clause-memory : goal.returns-in_err-read_on-clause-memory
returns-in_err-read_on-clause-memory g c = λ _. begins_taken c.loop-entry.invariant _ _ (rw c.in-Some.is at c.in_ok-entry.ensures.taken)

pub returns-in-Some-2-clause-found : goal.returns-in-Some-2-clause-found
returns-in-Some-2-clause-found g c =
    let loop = c.loop-entry.invariant in
    found_bad loop _ _ (g.F.Follower.looks c.args.follower.now) _ _ c.in-Some.entry _ c.in-Some-2.bad (rw c.in-Some.is at c.in_ok-entry.ensures.taken) c.in_ok-bad.ensures.reads
    ((rw c.in-Some-2.is at c.in_ok-bad.ensures.wrong) c.args.follower.now loop.entries loop.follows) c.in_ok-read_on.ensures.read

pub loop-entry-preserved : goal.loop-entry-preserved
loop-entry-preserved g c =
    let loop = c.loop-entry.invariant in
    following_more loop _ c.in-Some.entry _ (rw c.in-Some.is at c.in_ok-entry.ensures.taken) c.in_ok-bad.ensures.reads ((rw c.in_default-2.is at c.in_ok-bad.ensures.right) c.args.follower.now loop.entries)
