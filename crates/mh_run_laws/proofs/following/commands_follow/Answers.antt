use Rattle.mh_run_laws.proofs.following.AllCommands.{commands-follow}
use Rattle.mh_run_laws.proofs.following.commands_follow.Goals as goal

pub returns : goal.returns
returns c = commands-follow
