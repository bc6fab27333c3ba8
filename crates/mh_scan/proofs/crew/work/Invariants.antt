use Rattle.std.proofs.Common.{◌≡◌, ◌-◌, All, false}
use Rattle.mh_claims.specs.Seats.{DrawsFrom, seat_ended, next_of}
use Rattle.mh_scan.specs.Auxiliary.{IsFound, pieces_of}
use Rattle.mh_scan.proofs.crew.work.Given as goal

abbrev pub invariant-loop-piece : goal.invariant-loop-piece
invariant-loop-piece g l = record {
  own : DrawsFrom l.claims l.worker.seat;
  going : seat_ended l.worker.seat ≡ false;
  found : All (IsFound l.blocks l.asks l.batch) l.worker.done.items;
  drawn : l.worker.seat.drawn ≡ pieces_of l.worker.done.items;
  granted : l.worker.refused ≡ false;
}

abbrev pub decreases-loop-piece : goal.decreases-loop-piece
decreases-loop-piece g l = l.claims.bound - next_of l.worker.seat.drawn
