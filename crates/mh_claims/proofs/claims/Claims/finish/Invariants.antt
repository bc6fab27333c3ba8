use Rattle.std.proofs.Common.{◌≡◌, ◌++◌, [], true, vec_len, All}
use Rattle.mh_claims.specs.Seats.{DrawsFrom, seat_ended}
use Rattle.mh_claims.proofs.FinishedClaims.{lists_of}
use Rattle.mh_claims.proofs.claims.Claims.finish.Given as goal

abbrev pub invariant-loop-before : goal.invariant-loop-before
invariant-loop-before l = record {
  table : l.all.table_id ≡ l.table.shared.table_id;
  bare : l.all.me.1 ≡ [];
  each : All (λ seat. DrawsFrom l.fn.self seat × (seat_ended seat ≡ true)) l.seats.items;
  lists : lists_of l.seats.items ++ l.all.me.0 ≡ lists_of l.fn.seats.items;
}

abbrev pub decreases-loop-before : goal.decreases-loop-before
decreases-loop-before l = vec_len l.seats
