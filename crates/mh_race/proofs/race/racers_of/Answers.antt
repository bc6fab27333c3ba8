use Rattle.std.proofs.{Common.{arith, ◌∷◌, []}, lemmas.List.length-append}
use Rattle.mh_race.proofs.NewRacers.{last-new, fresh-push}
use Rattle.mh_race.proofs.race.racers_of.Goals as goal

pub loop-seat-preserved-in-Continue-1 : goal.loop-seat-preserved-in-Continue-1
loop-seat-preserved-in-Continue-1 c = record {
  fresh = λ service all.
      let both = last-new service c.loop-seat.yielded c.in-Some.seat all in
      let before = c.loop-seat.invariant.fresh service both.0 in
      (fresh-push service c.loop-seat.busy.items c.push.new.self.items c.new-racer.result c.in-Some.seat c.in_ok-push.ensures.items c.new-racer.ensures both.1 before.0, before.1);
  count = omega (arith, c.loop-seat.invariant.count, c.in_ok-push.ensures.len, length-append c.loop-seat.yielded (c.in-Some.seat ∷ []));
}

pub loop-seat-preserved : goal.loop-seat-preserved
loop-seat-preserved c = record {
  fresh = λ service all.
      let both = last-new service c.loop-seat.yielded c.in-Some.seat all in
      let before = c.loop-seat.invariant.fresh service both.0 in
      (before.0, fresh-push service c.loop-seat.idle.items c.push-else-number-eq-DESK.new.self.items c.new-racer.result c.in-Some.seat c.in_ok-push-2.ensures.items c.new-racer.ensures both.1 before.1);
  count = omega (arith, c.loop-seat.invariant.count, c.in_ok-push-2.ensures.len, length-append c.loop-seat.yielded (c.in-Some.seat ∷ []));
}
