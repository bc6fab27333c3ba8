use Rattle.std.proofs.Common.{◌≡◌, ◌≤◌, arith}
use Rattle.mh_model.specs.Limits.{most_entries}
use Rattle.mh_size_runs.proofs.live.between.Goals as goal

pub overflow_cast-share : goal.overflow_cast-share
unfolding most_entries
overflow_cast-share c = let few : c.args.count ≤ 1000000 = c.requires in omega (arith, few)
