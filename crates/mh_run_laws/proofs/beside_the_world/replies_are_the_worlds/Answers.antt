use Rattle.mh_run_laws.proofs.{following.AllCommands.commands-follow, runs.FaithfulMoments.replies-worlds}
use Rattle.mh_run_laws.proofs.beside_the_world.replies_are_the_worlds.Goals as goal

pub returns : goal.returns
returns c = replies-worlds commands-follow
