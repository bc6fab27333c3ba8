use Rattle.std.proofs.Common.{◌≡◌, ◌*◌, ◌≤◌, drop}
use Rattle.mh_laws.proofs.bounds.CyclesInTime.{StaysInBounds}
use Rattle.mh_size_runs.specs.Auxiliary.{sample_of}
use Rattle.mh_size_runs.proofs.SeenLemmas.{HasSeen}
use Rattle.mh_size_runs.proofs.seen.watch.Given as goal

abbrev pub invariant-loop-event : goal.invariant-loop-event
invariant-loop-event g l = record {
  stays : StaysInBounds l.fn.config l.machine.machine;
  count : l.machine.done ≡ l.event-index;
  before : l.before ≡ sample_of l.machine.machine;
  seen : HasSeen l.fn.config l.events (drop l.event-index l.events) l.machine.machine l.watched;
  cycles : l.watched.cycles ≤ l.event-index;
  total : l.watched.running.total ≤ l.event-index * 3661;
}
