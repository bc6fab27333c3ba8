use Rattle.std.proofs.Common.{refl, ap}
use Rattle.mh_model.specs.Trace.{TraceState}
use Rattle.mh_machine.specs.{Auxiliary.machine_of, Running.Running}
use Rattle.mh_machine.proofs.RunningLemmas.{forgotten-running}
use Rattle.mh_machine.proofs.machine.Machine.forget.Goals as goal

pub invariant_of-self : goal.invariant_of-self
invariant_of-self c =
    let running : Running = record { machine = machine_of c.self.inside.engine; done = c.self.inside.done; room = c.self.inside.engine.trace.room; capacity = c.self.inside.engine.trace.capacity } in
    let after : Running = record { machine = machine_of (record c.self.inside.engine { trace = c.forget.new.self }); done = c.self.inside.done; room = c.forget.new.self.room; capacity = c.forget.new.self.capacity } in
    forgotten-running c.events_keep_what_is_recalled.ensures c.self.inside.config running after c.self.invariant
    (ap (λ (t : TraceState). record running.machine { trace = t }) c.forget.ensures.trace) refl
