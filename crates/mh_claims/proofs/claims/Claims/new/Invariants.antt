use Rattle.std.proofs.Common.{◌≡◌, ◌+◌, ℕ, suc, [], replicate, vec_len, All}
use Rattle.mh_claims.specs.Seats.{IsBeforeItsDraws}
use Rattle.mh_claims.proofs.claims.Claims.new.Given as goal

abbrev pub invariant-loop : goal.invariant-loop
invariant-loop l = record {
  left : (k : ℕ) × (k + l.counter ≡ l.seats) × (l.rest.me ≡ (replicate (suc k) [], []));
  table : l.rest.table_id ≡ l.table.shared.table_id;
  count : vec_len l.all + 1 ≡ l.counter;
  each : All (IsBeforeItsDraws (record { table = l.table.shared.table_id; bound = l.bound; seats = l.seats })) l.all.items;
}
