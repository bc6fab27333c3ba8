use Rattle.mh_run_laws.proofs.{following.AllCommands.commands-follow, runs.FaithfulMoments.moments-faithful}
use Rattle.mh_run_laws.proofs.beside_the_world.moments_are_faithful.Goals as goal

pub returns : goal.returns
returns c = moments-faithful commands-follow
