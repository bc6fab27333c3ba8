use Rattle.std.proofs.Common.{◌≡◌, ◌++◌, map, vec_capacity}
use Rattle.mh_race.specs.Auxiliary.{AreNoted}
use Rattle.mh_race.proofs.race.take_seats.Given as goal

abbrev pub invariant-loop-seat : goal.invariant-loop-seat
invariant-loop-seat l = record {
  room : vec_capacity l.seats ≡ vec_capacity l.initial.seats;
  seats : l.seats.items ≡ l.initial.seats.items ++ map (λ racer. racer.seat) l.yielded;
  noted : AreNoted l.yielded l.initial.stops l.stops;
}
