use Rattle.std.proofs.Common.{◌≡◌, ℕ, ◌<◌, ◌+◌, true, All, vec_len}
use Rattle.mh_model.specs.History.{times_drawn}
use Rattle.mh_claims.specs.Seats.{DrawsFrom, seat_ended}
use Rattle.mh_scan.specs.Auxiliary.{IsFound, HasWorked, times_found, drawn_by}
use Rattle.mh_scan.proofs.crew.gather.Given as goal

abbrev pub invariant-loop-worker : goal.invariant-loop-worker
invariant-loop-worker l = record {
  count : vec_len l.seats + vec_len l.workers ≡ vec_len l.fn.workers;
  left : All (HasWorked l.claims l.blocks l.fn.asks l.batch) l.workers.items;
  ended : All (λ seat. DrawsFrom l.claims seat × (seat_ended seat ≡ true)) l.seats.items;
  found : All (IsFound l.blocks l.fn.asks l.batch) l.found.items;
  times : (number : ℕ) → number < l.claims.bound → times_drawn number (drawn_by l.seats.items) ≡ times_found number l.found.items;
}

abbrev pub decreases-loop-worker : goal.decreases-loop-worker
decreases-loop-worker l = vec_len l.workers
