use Rattle.std.proofs.Common.{◌≡◌, ◌+◌, All, vec_len, length}
use Rattle.mh_service.specs.Services.{ServiceView}
use Rattle.mh_race.specs.Auxiliary.{IsNewSeat, IsFresh}
use Rattle.mh_race.proofs.race.racers_of.Given as goal

abbrev pub invariant-loop-seat : goal.invariant-loop-seat
invariant-loop-seat l = record {
  fresh : (service : ServiceView) → All (IsNewSeat service) l.yielded → All (IsFresh service) l.busy.items × All (IsFresh service) l.idle.items;
  count : vec_len l.busy + vec_len l.idle ≡ length l.yielded;
}
