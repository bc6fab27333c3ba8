use Rattle.std.proofs.Common.{◌≡◌, ◌+◌, ◌<◌, ℕ, suc, [], None, vec_len, get_or}
use Rattle.mh_lock.specs.{Seats.{LockSeatView, new_seat}, Steps.{seat_view, empty_logs}}
use Rattle.mh_lock.proofs.lock.Lock.open.Given as goal

abbrev pub invariant-loop-number : goal.invariant-loop-number
invariant-loop-number g l = record {
  left : (k : ℕ) × (suc (k + l.number) ≡ l.seats) × (l.rest.me ≡ (seat_view (empty_logs l.number (suc k)) None, []));
  table : l.rest.table_id ≡ l.lock-inside.table.shared.table_id;
  count : vec_len l.all ≡ l.number;
  each : (number : ℕ) (other : LockSeatView g.row.E.Denot) → number < l.number → get_or l.all.items number other ≡ new_seat (record { table = l.lock-inside.table.shared.table_id; seats = l.seats; origin = l.lock-inside.table.shared.key.1 }) number;
}
