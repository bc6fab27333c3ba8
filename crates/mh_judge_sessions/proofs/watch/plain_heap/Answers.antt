use Rattle.std.proofs.Common.{◌≡◌, rules}
use Rattle.mh_judge_sessions.proofs.watch.plain_heap.Goals as goal

pub returns : goal.returns
returns c =
    let same : c.in-Some.config.rules ≡ c.args.rules = search rules in
    (c.in-Some.config, same, c.open.ensures)
