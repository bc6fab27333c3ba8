use Rattle.mh_run_laws.proofs.following.SlotCommands.{get-follows}
use Rattle.mh_run_laws.proofs.following.get_follows.Goals as goal

pub returns : goal.returns
returns c = get-follows
