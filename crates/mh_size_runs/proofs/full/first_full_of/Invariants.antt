use Rattle.std.proofs.Common.{◌≡◌, ◌+◌, drop}
use Rattle.mh_model.specs.Machine.{machine_replies}
use Rattle.mh_size_runs.specs.Full.{first_full_among}
use Rattle.mh_size_runs.proofs.FullLemmas.{shifted}
use Rattle.mh_size_runs.proofs.full.first_full_of.Given as goal

-- the rest of the replies decides
abbrev pub invariant-loop-event : goal.invariant-loop-event
invariant-loop-event g l = record {
  count : l.machine.done ≡ l.initial.machine.done + l.event-index;
  number : l.number ≡ l.event-index;
  rest : shifted l.event-index (first_full_among (machine_replies l.machine.machine (drop l.event-index l.events))) ≡ first_full_among (machine_replies l.initial.machine.machine l.events);
}
