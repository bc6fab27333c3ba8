use Rattle.std.proofs.Common.{◌*◌, ◌≤◌}
use Rattle.mh_mark.proofs.batch.front_guess.Given as goal

abbrev pub invariant-loop-sample : goal.invariant-loop-sample
invariant-loop-sample l = l.cost ≤ 61 * l.sample
