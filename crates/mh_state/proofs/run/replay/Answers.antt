use Rattle.std.proofs.{Common.{length, arith}, lemmas.Grind.common_steps}
use Rattle.mh_model.specs.Limits.{most_entries}
use Rattle.mh_state.proofs.RunLemmas.{none-done, all-done, stopped-so-far, stopped-full, stopped-more, stopped-ends, stopped-left}
use Rattle.mh_state.proofs.run.replay.Goals as goal

pub returns-in-Err-clause-stops : goal.returns-in-Err-clause-stops
unfolding most_entries
returns-in-Err-clause-stops g c = grind (arith, common_steps)

pub returns-in-Ok-go_on_with_all-clause-replay : goal.returns-in-Ok-go_on_with_all-clause-replay
returns-in-Ok-go_on_with_all-clause-replay g c =
    all-done c.args.config c.args.events.now (length c.args.events.now) c.go_on_with_all.new.replies.items c.go_on_with_all.new.machine (omega arith)
    (c.in-Ok-go_on_with_all.ensures.done c.args.config (none-done c.events_keep_the_replay.ensures c.args.config c.args.events.now c.new-replies.result.items c.in-Ok.machine c.new-replies.ensures.items c.in-Ok.ensures))

pub returns-in-Ok-go_on_with_all-clause-ends : goal.returns-in-Ok-go_on_with_all-clause-ends
returns-in-Ok-go_on_with_all-clause-ends g c =
    (c.in-Ok-go_on_with_all.ensures.done c.args.config (none-done c.events_keep_the_replay.ensures c.args.config c.args.events.now c.new-replies.result.items c.in-Ok.machine c.new-replies.ensures.items c.in-Ok.ensures)).few

pub returns-in-Err-go_on_with_all-clause-so_far : goal.returns-in-Err-go_on_with_all-clause-so_far
returns-in-Err-go_on_with_all-clause-so_far g c =
    stopped-so-far c.args.config c.args.events.now c.go_on_with_all.new.replies c.go_on_with_all.new.machine c.in-Err-go_on_with_all.stop
    (c.in-Err-go_on_with_all.ensures.stopped c.args.config (none-done c.events_keep_the_replay.ensures c.args.config c.args.events.now c.new-replies.result.items c.in-Ok.machine c.new-replies.ensures.items c.in-Ok.ensures))

pub returns-in-Err-go_on_with_all-clause-full : goal.returns-in-Err-go_on_with_all-clause-full
returns-in-Err-go_on_with_all-clause-full g c =
    stopped-full c.args.config c.args.events.now c.go_on_with_all.new.replies c.go_on_with_all.new.machine c.in-Err-go_on_with_all.stop
    (c.in-Err-go_on_with_all.ensures.stopped c.args.config (none-done c.events_keep_the_replay.ensures c.args.config c.args.events.now c.new-replies.result.items c.in-Ok.machine c.new-replies.ensures.items c.in-Ok.ensures))

pub returns-in-Err-go_on_with_all-clause-more : goal.returns-in-Err-go_on_with_all-clause-more
returns-in-Err-go_on_with_all-clause-more g c =
    stopped-more c.args.config c.args.events.now c.go_on_with_all.new.replies c.go_on_with_all.new.machine c.in-Err-go_on_with_all.stop
    (c.in-Err-go_on_with_all.ensures.stopped c.args.config (none-done c.events_keep_the_replay.ensures c.args.config c.args.events.now c.new-replies.result.items c.in-Ok.machine c.new-replies.ensures.items c.in-Ok.ensures))

pub returns-in-Err-go_on_with_all-clause-stops : goal.returns-in-Err-go_on_with_all-clause-stops
returns-in-Err-go_on_with_all-clause-stops g c =
    stopped-ends c.args.config c.args.events.now c.go_on_with_all.new.replies c.go_on_with_all.new.machine c.in-Err-go_on_with_all.stop
    (c.in-Err-go_on_with_all.ensures.stopped c.args.config (none-done c.events_keep_the_replay.ensures c.args.config c.args.events.now c.new-replies.result.items c.in-Ok.machine c.new-replies.ensures.items c.in-Ok.ensures))

pub returns-in-Err-go_on_with_all-clause-left : goal.returns-in-Err-go_on_with_all-clause-left
returns-in-Err-go_on_with_all-clause-left g c = λ _.
    stopped-left c.args.config c.args.events.now c.go_on_with_all.new.replies c.go_on_with_all.new.machine c.in-Err-go_on_with_all.stop
    (c.in-Err-go_on_with_all.ensures.stopped c.args.config (none-done c.events_keep_the_replay.ensures c.args.config c.args.events.now c.new-replies.result.items c.in-Ok.machine c.new-replies.ensures.items c.in-Ok.ensures))
