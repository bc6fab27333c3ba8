use Rattle.std.proofs.Common.{subst}
use Rattle.mh_model.specs.History.{IsLegal}
use Rattle.mh_race.proofs.RacedCalls.{calls-begun, calls-stopped, stopped-at}
use Rattle.mh_race.proofs.race.race.Goals as goal

pub returns-clause-legal : goal.returns-clause-legal
returns-clause-legal g c = subst (λ config. IsLegal config c.in-Ok.closed.history.items) c.in_ok-service.ensures.config c.in-Ok.ensures.legal

pub returns-clause-begun : goal.returns-clause-begun
returns-clause-begun g c = calls-begun c.events_have_one_owner.ensures c.in_ok-service.service c.args.events.now c.in_ok-seats.stops c.in_ok-seats.seats.items c.in-Ok.closed.history.items c.in_ok-seats.ensures.run c.in-Ok.ensures.logs c.in-Ok.ensures.numbers

pub returns-clause-each : goal.returns-clause-each
returns-clause-each g c = calls-stopped c.events_have_one_owner.ensures c.in_ok-service.service c.args.events.now c.in_ok-seats.stops c.in_ok-seats.seats.items c.in-Ok.closed.history.items c.in_ok-seats.ensures.run c.in-Ok.ensures.logs c.in-Ok.ensures.numbers

pub returns-clause-reasons : goal.returns-clause-reasons
returns-clause-reasons g c =
    let at = stopped-at c.events_have_one_owner.ensures c.in_ok-service.service c.args.events.now c.in_ok-seats.stops c.in_ok-seats.seats.items c.in-Ok.closed.history.items c.in_ok-seats.ensures.run c.in-Ok.ensures.logs c.in-Ok.ensures.numbers in
    (c.in_ok-service.service, c.in_ok-service.ensures.config, at)
