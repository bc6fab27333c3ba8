use Rattle.std.proofs.Common.{arith, take, refl, sym, ap, ◌∙◌}
use Rattle.mh_model.specs.History.{owner_of, owned_by, events_of}
use Rattle.mh_race.proofs.RunSeats.{refused-at, ran-one}
use Rattle.mh_race.proofs.racer.Racer.run.Goals as goal

pub returns-in-Err : goal.returns-in-Err
returns-in-Err g c =
    let made = ap events_of c.in-Err.ensures.refused.0 ∙ (c.loop-event.invariant.made ∙ ap (λ n. owned_by owner_of n (take c.loop-event.event-index c.args.events.now)) (sym c.answer.ensures.own.1)) in
    (c.answer.ensures.own.0, refused-at (g.C.Called.refuses c.args.service.now) c.answer.new.seat c.args.events.now c.loop-event.event-index _ c.in-Err.stop (omega arith) (c.if-not-owns.ensures.0 refl ∙ sym c.answer.ensures.own.1) made c.in-Err.ensures.refused.1)

pub loop-event-preserved : goal.loop-event-preserved
loop-event-preserved g c = record {
  table = c.answer.ensures.own.0 ∙ sym c.requires.0.0;
  stop = c.loop-event.invariant.stop;
  made = ran-one c.loop-event.self.seat c.answer.new.seat c.args.events.now c.loop-event.event-index _ c.in_default.field-0 (omega arith) (c.if-not-owns.ensures.0 refl) c.answer.ensures.own.1 c.in_default.ensures.ok c.loop-event.invariant.made;
}
