use Rattle.std.proofs.Common.{◌≡◌, ◌++◌, [], None, vec_len, All}
use Rattle.mh_lock.specs.Seats.{IsOf}
use Rattle.mh_lock.proofs.ClosedLocks.{logs_of}
use Rattle.mh_lock.proofs.lock.Lock.join_all.Given as goal

abbrev pub invariant-loop-before : goal.invariant-loop-before
invariant-loop-before g l = record {
  table : l.all.table_id ≡ l.table.shared.table_id;
  bare : l.all.me.1 ≡ [];
  free : l.all.me.0.found ≡ None;
  each : All (λ seat. IsOf l.fn.self (g.S.HasSeat.seat_of seat)) l.seats.items;
  logs : logs_of g.S.HasSeat.seat_of l.seats.items ++ l.all.me.0.logs ≡ logs_of g.S.HasSeat.seat_of l.fn.seats.items;
}

abbrev pub decreases-loop-before : goal.decreases-loop-before
decreases-loop-before g l = vec_len l.seats
