use Rattle.std.proofs.Common.{◌≤◌, ◌+◌, arith}
use Rattle.mh_model.specs.Limits.{most_events}
use Rattle.mh_machine.specs.{Auxiliary.machine_of, Running.Running}
use Rattle.mh_machine.proofs.RunningLemmas.{config-running, event-running, short-half, short-running}
use Rattle.mh_machine.proofs.machine.Machine.advance.Goals as goal

pub event-requires-clause-config : goal.event-requires-clause-config
event-requires-clause-config g c =
    let running : Running = record { machine = machine_of c.self.inside.engine; done = c.self.inside.done; room = c.self.inside.engine.trace.room; capacity = c.self.inside.engine.trace.capacity } in
    config-running c.self.inside.config running c.self.invariant

pub event-requires-clause-short : goal.event-requires-clause-short
event-requires-clause-short g c =
    let running : Running = record { machine = machine_of c.self.inside.engine; done = c.self.inside.done; room = c.self.inside.engine.trace.room; capacity = c.self.inside.engine.trace.capacity } in
    short-running c.runs_stay_within_their_events.ensures c.self.inside.config running c.self.invariant

pub event-requires-clause-half : goal.event-requires-clause-half
unfolding most_events
event-requires-clause-half g c =
    let running : Running = record { machine = machine_of c.self.inside.engine; done = c.self.inside.done; room = c.self.inside.engine.trace.room; capacity = c.self.inside.engine.trace.capacity } in
    let few : c.self.inside.done ≤ 4398046511104 = c.self.invariant.few in
    short-half c.runs_stay_within_their_events.ensures c.self.inside.config c.events_keep_what_is_recalled.ensures running c.args.event c.self.invariant (omega arith)

pub invariant_of-self-in-Ok : goal.invariant_of-self-in-Ok
unfolding most_events
invariant_of-self-in-Ok g c =
    let running : Running = record { machine = machine_of c.self.inside.engine; done = c.self.inside.done; room = c.self.inside.engine.trace.room; capacity = c.self.inside.engine.trace.capacity } in
    let after : Running = record { machine = machine_of c.event.new.self; done = c.self.inside.done + 1; room = c.event.new.self.trace.room; capacity = c.event.new.self.trace.capacity } in
    let few : c.self.inside.done ≤ 4398046511104 = c.self.invariant.few in
    event-running c.events_keep_what_is_recalled.ensures c.self.inside.config running after c.args.event c.in-Ok.reply c.self.invariant (omega arith) c.in-Ok.ensures.step (omega arith)
