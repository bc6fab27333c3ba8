use Rattle.std.proofs.Common.{subst, ◌≡◌, IfOk}
use Rattle.mh_machine.specs.Running.{Running}
use Rattle.mh_model.specs.Machine.{machine_replies}
use Rattle.mh_size_runs.specs.Full.{first_full, first_full_among}
use Rattle.mh_size_runs.proofs.full.first_full.Goals as goal

pub returns : goal.returns
unfolding first_full
returns g c = subst (λ (r : Running). IfOk c.first_full_of.result (λ first. first ≡ first_full_among (machine_replies r.machine c.args.events.now))) c.in_ok-machine.ensures c.first_full_of.ensures
