use Rattle.std.proofs.Common.{◌≡◌, ◌+◌, All, vec_len}
use Rattle.mh_claims.specs.Seats.{IsBeforeItsDraws}
use Rattle.mh_scan.specs.Auxiliary.{IsHired}
use Rattle.mh_scan.proofs.crew.hire.Given as goal

abbrev pub invariant-loop-seat : goal.invariant-loop-seat
invariant-loop-seat l = record {
  count : vec_len l.workers + vec_len l.seats ≡ vec_len l.fn.seats;
  seats : All (IsBeforeItsDraws l.claims) l.seats.items;
  hired : All (IsHired l.claims) l.workers.items;
}

abbrev pub decreases-loop-seat : goal.decreases-loop-seat
decreases-loop-seat l = vec_len l.seats
