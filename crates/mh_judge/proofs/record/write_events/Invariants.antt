use Rattle.std.proofs.Common.{◌≡◌, drop, length}
use Rattle.std.specs.String.{string_bytes}
use Rattle.mh_model.specs.{declared.command.Event.Event, Machine.first_machine}
use Rattle.mh_script.specs.Histories.{header, record_told}
use Rattle.mh_script.proofs.LineLemmas.{IsTold}
use Rattle.mh_judge.proofs.record.write_events.Given as goal

-- as many events as the machine has done were told, and the others are left
abbrev pub invariant-loop-text : goal.invariant-loop-text
invariant-loop-text g l = record {
  sound : g.E.Events.sound l.events;
  left : g.E.Events.left l.events ≡ drop l.machine.done (g.E.Events.left l.initial.events);
  told : IsTold (record_told (λ (event : Event). event)) (header l.fn.config) (first_machine l.fn.config) (g.E.Events.left l.initial.events) l.machine.done l.machine.machine (g.W.Sink.device l.initial.sink) (g.W.Sink.device l.sink) (string_bytes l.text);
}

abbrev pub decreases-loop-text : goal.decreases-loop-text
decreases-loop-text g l = length (g.E.Events.left l.events)
