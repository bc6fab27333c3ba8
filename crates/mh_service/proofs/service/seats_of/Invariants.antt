use Rattle.std.proofs.Common.{◌≡◌}
use Rattle.mh_service.proofs.service.seats_of.Given as goal

abbrev pub invariant-loop-seat : goal.invariant-loop-seat
invariant-loop-seat l = record {
  seats : l.seats.items ≡ l.yielded;
}
