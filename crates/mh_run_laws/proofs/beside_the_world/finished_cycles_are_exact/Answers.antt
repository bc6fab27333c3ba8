use Rattle.mh_run_laws.proofs.{following.AllCommands.commands-follow, runs.FaithfulMoments.finished-exact}
use Rattle.mh_run_laws.proofs.beside_the_world.finished_cycles_are_exact.Goals as goal

pub returns : goal.returns
returns c = finished-exact commands-follow
