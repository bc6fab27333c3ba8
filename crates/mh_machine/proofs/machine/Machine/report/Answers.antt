use Rattle.std.proofs.Common.{◌∙◌, ap}
use Rattle.mh_model.specs.{declared.config.Config.Config, Machine.report_on}
use Rattle.mh_machine.specs.{Auxiliary.machine_of, Running.Running}
use Rattle.mh_machine.proofs.RunningLemmas.{config-running, report-promises}
use Rattle.mh_machine.proofs.machine.Machine.report.Goals as goal

pub returns-clause-report : goal.returns-clause-report
returns-clause-report c =
    let running : Running = record { machine = machine_of c.self.inside.engine; done = c.self.inside.done; room = c.self.inside.engine.trace.room; capacity = c.self.inside.engine.trace.capacity } in
    rw (← c.self.view_is) (c.report.ensures.report ∙ ap (λ (config : Config). report_on config c.self.inside.engine.trace.trace c.args.window) (config-running c.self.inside.config running c.self.invariant))

pub returns-clause-promise : goal.returns-clause-promise
returns-clause-promise c =
    let running : Running = record { machine = machine_of c.self.inside.engine; done = c.self.inside.done; room = c.self.inside.engine.trace.room; capacity = c.self.inside.engine.trace.capacity } in
    rw (← c.self.view_is) (report-promises c.forgotten_traces_keep_their_promise.ensures c.self.inside.config running c.self.invariant c.args.window c.report.result c.report.ensures.report)
