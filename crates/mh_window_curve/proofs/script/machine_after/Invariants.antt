use Rattle.std.proofs.Common.{◌≡◌, take}
use Rattle.mh_model.specs.Machine.{first_machine, machine_after}
use Rattle.mh_window_curve.proofs.script.machine_after.Given as goal

abbrev pub invariant-loop-event : goal.invariant-loop-event
invariant-loop-event g l = record {
  machine : l.machine.machine ≡ machine_after (first_machine l.fn.config) (take l.event-index l.events);
  count : l.machine.done ≡ l.event-index;
}
