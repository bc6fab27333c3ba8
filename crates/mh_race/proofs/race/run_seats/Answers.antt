use Rattle.std.proofs.Common.{◌≡◌, ◌++◌, All, map, ap, ◌∙◌, sym, subst, replicate, None}
use Rattle.std.proofs.lemmas.List.Elements.{All-append, All-map}
use Rattle.mh_race.specs.Auxiliary.{AreRun}
use Rattle.mh_service.specs.Services.{IsOfService}
use Rattle.mh_race.proofs.RunSeats.{nobody-stopped, seats-run}
use Rattle.mh_race.proofs.race.run_seats.Goals as goal

pub run_all-requires-clause-fresh : goal.run_all-requires-clause-fresh
run_all-requires-clause-fresh g c κs within = λ k d lt. (c.in_ok-busy.ensures.fresh (g.C.Called.service c.args.service.now) c.requires).0 k d lt

pub run_all-requires-2-clause-fresh : goal.run_all-requires-2-clause-fresh
run_all-requires-2-clause-fresh g c κs within = λ k d lt. (c.in_ok-busy.ensures.fresh (g.C.Called.service c.args.service.now) c.requires).1 k d lt

pub returns-clause-own : goal.returns-clause-own
returns-clause-own g c =
    let is : c.take_seats-2.new.seats.items ≡ map (λ racer. racer.seat) c.run_all.new.racers.items ++ map (λ racer. racer.seat) c.run_all-2.new.racers.items
    = c.take_seats-2.ensures.seats ∙ ap (λ l. l ++ map (λ racer. racer.seat) c.run_all-2.new.racers.items) (c.take_seats.ensures.seats ∙ ap (λ l. l ++ map (λ racer. racer.seat) c.run_all.new.racers.items) c.in_ok-back.ensures.items) in
    let busy = All-map (IsOfService (g.C.Called.service c.args.service.now)) (λ racer. racer.seat) c.run_all.new.racers.items (λ k d lt. (c.run_all.ensures.run k d lt).0) in
    let idle = All-map (IsOfService (g.C.Called.service c.args.service.now)) (λ racer. racer.seat) c.run_all-2.new.racers.items (λ k d lt. (c.run_all-2.ensures.run k d lt).0) in
    subst (All (IsOfService (g.C.Called.service c.args.service.now))) (sym is) (All-append (IsOfService (g.C.Called.service c.args.service.now)) (map (λ racer. racer.seat) c.run_all.new.racers.items) (map (λ racer. racer.seat) c.run_all-2.new.racers.items) busy idle)

pub returns-clause-run : goal.returns-clause-run
returns-clause-run g c =
    let is : c.take_seats-2.new.seats.items ≡ map (λ racer. racer.seat) c.run_all.new.racers.items ++ map (λ racer. racer.seat) c.run_all-2.new.racers.items
    = c.take_seats-2.ensures.seats ∙ ap (λ l. l ++ map (λ racer. racer.seat) c.run_all-2.new.racers.items) (c.take_seats.ensures.seats ∙ ap (λ l. l ++ map (λ racer. racer.seat) c.run_all.new.racers.items) c.in_ok-back.ensures.items) in
    subst (AreRun (g.C.Called.refuses c.args.service.now) c.args.events.now c.take_seats-2.new.stops) (sym is)
    (seats-run (g.C.Called.service c.args.service.now) (g.C.Called.refuses c.args.service.now) c.args.events.now c.run_all.new.racers.items c.run_all-2.new.racers.items (replicate 9 None) c.take_seats.new.stops c.take_seats-2.new.stops (nobody-stopped 9) c.take_seats.ensures.noted c.take_seats-2.ensures.noted c.run_all.ensures.run c.run_all-2.ensures.run)
