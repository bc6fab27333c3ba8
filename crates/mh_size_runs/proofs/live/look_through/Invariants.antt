use Rattle.std.proofs.Common.{◌≡◌, ◌+◌, drop}
use Rattle.mh_size_runs.specs.Auxiliary.{stage_of}
use Rattle.mh_size_runs.proofs.LiveLemmas.{HasFound}
use Rattle.mh_size_runs.proofs.live.look_through.Given as goal

abbrev pub invariant-loop-event : goal.invariant-loop-event
invariant-loop-event g l = record {
  done : l.machine.done ≡ l.initial.machine.done + l.event-index;
  old : l.old ≡ stage_of l.machine.machine.heap.collector;
  found : HasFound l.initial.machine.machine l.events (drop l.event-index l.events) l.machine.machine l.quarter.most l.quarter.is_whole;
}
