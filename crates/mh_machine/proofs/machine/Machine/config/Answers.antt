use Rattle.mh_machine.specs.{Auxiliary.machine_of, Running.Running}
use Rattle.mh_machine.proofs.RunningLemmas.{config-running}
use Rattle.mh_machine.proofs.machine.Machine.config.Goals as goal

pub returns : goal.returns
returns c =
    let running : Running = record { machine = machine_of c.self.inside.engine; done = c.self.inside.done; room = c.self.inside.engine.trace.room; capacity = c.self.inside.engine.trace.capacity } in
    rw (← c.self.view_is) (config-running c.self.inside.config running c.self.invariant)
