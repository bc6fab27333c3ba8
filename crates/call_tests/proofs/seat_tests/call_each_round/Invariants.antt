use Rattle.mh_service.specs.Services.{IsOfService}
use Rattle.call_tests.proofs.seat_tests.call_each_round.Given as goal

abbrev pub invariant-loop-round : goal.invariant-loop-round
invariant-loop-round g l = IsOfService l.service l.seat
