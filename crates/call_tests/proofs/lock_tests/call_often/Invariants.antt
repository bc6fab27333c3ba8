use Rattle.mh_lock.specs.Seats.{IsOf}
use Rattle.call_tests.proofs.lock_tests.call_often.Given as goal

abbrev pub invariant-loop-count : goal.invariant-loop-count
invariant-loop-count g l = IsOf l.lock l.seat
