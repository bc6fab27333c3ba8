use Rattle.std.proofs.lemmas.Result.{IfOk-weaker}
use Rattle.mh_heap.specs.PlainHeap.{world_of}
use Rattle.mh_judge_sessions.specs.Watching.{Watched}
use Rattle.mh_judge_sessions.proofs.WatchLemmas.{watch_right, watch_wrong}
use Rattle.mh_judge_sessions.proofs.watch.WatchFollower.follow.Goals as goal

pub returns-clause-right : goal.returns-clause-right
returns-clause-right c =
    let here : Watched = record { version = c.self.inside.version; may_be_full = c.self.inside.may_be_full; rules = c.self.inside.rules; world = world_of c.self.inside.heap; tally = c.self.inside.tally } in
    rw (← c.self.view_is) (IfOk-weaker c.try_entry.result _ _ (watch_right here (world_of c.try_entry.new.heap) c.args.entry c.add.new.self c.add.ensures c.try_entry.ensures.births) c.try_entry.ensures.tried)

pub returns-clause-wrong : goal.returns-clause-wrong
returns-clause-wrong c =
    let here : Watched = record { version = c.self.inside.version; may_be_full = c.self.inside.may_be_full; rules = c.self.inside.rules; world = world_of c.self.inside.heap; tally = c.self.inside.tally } in
    rw (← c.self.view_is) (IfOk-weaker c.try_entry.result _ _ (watch_wrong here (world_of c.try_entry.new.heap) c.args.entry c.add.new.self c.add.ensures) c.try_entry.ensures.tried)
