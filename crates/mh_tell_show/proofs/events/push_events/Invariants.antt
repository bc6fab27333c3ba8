use Rattle.std.proofs.Common.{◌≡◌, ◌+◌}
use Rattle.std.specs.String.{string_bytes}
use Rattle.mh_window_curve.specs.Histories.{IsShortTrace}
use Rattle.mh_tell_show.proofs.EventLemmas.{HasShown}
use Rattle.mh_tell_show.proofs.events.push_events.Given as goal

abbrev pub invariant-loop-event : goal.invariant-loop-event
invariant-loop-event l = record {
  shown : HasShown l.initial.machine.machine l.events l.event-index l.fn.room l.machine.machine l.left l.room (string_bytes l.initial.text) (string_bytes l.text) l.trace.trace;
  short : IsShortTrace l.trace.trace;
  count : l.machine.done ≡ l.initial.machine.done + l.event-index;
}
