use Rattle.mh_run_laws.proofs.worlds.Moments.{world-moment_after}
use Rattle.mh_run_laws.proofs.worlds.moment_has_the_world.Goals as goal

pub returns : goal.returns
returns c = world-moment_after
