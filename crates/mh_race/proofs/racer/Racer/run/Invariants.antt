use Rattle.std.proofs.Common.{◌≡◌, None, take}
use Rattle.mh_model.specs.History.{owner_of, owned_by, events_of}
use Rattle.mh_race.proofs.racer.Racer.run.Given as goal

abbrev pub invariant-loop-event : goal.invariant-loop-event
invariant-loop-event g l = record {
  table : l.self.seat.table ≡ l.initial.self.seat.table;
  stop : l.self.stop ≡ None;
  made : events_of l.self.seat.log ≡ owned_by owner_of l.self.seat.number (take l.event-index l.events);
}
