use Rattle.mh_run_laws.proofs.worlds.Moments.{machine-moment_after}
use Rattle.mh_run_laws.proofs.worlds.moment_has_the_machine.Goals as goal

pub returns : goal.returns
returns c = machine-moment_after
