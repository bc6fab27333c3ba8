use Rattle.mh_run_laws.proofs.worlds.FullHeaps.{world_step-never_full}
use Rattle.mh_run_laws.proofs.worlds.world_is_never_full.Goals as goal

pub returns : goal.returns
returns c = world_step-never_full
