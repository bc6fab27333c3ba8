use Rattle.mh_machine.specs.Auxiliary.{machine_of}
use Rattle.mh_machine.proofs.RunningLemmas.{first-running}
use Rattle.mh_machine.proofs.machine.Machine.open.Goals as goal

pub invariant_of-result : goal.invariant_of-result
invariant_of-result c = first-running c.events_keep_what_is_recalled.ensures c.args.config (machine_of c.in_ok-open.field-0) _ _ c.in_ok-open.ensures.machine
