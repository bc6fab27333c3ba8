use Rattle.mh_run_laws.proofs.following.SlotCommands.{same-follows}
use Rattle.mh_run_laws.proofs.following.same_follows.Goals as goal

pub returns : goal.returns
returns c = same-follows
