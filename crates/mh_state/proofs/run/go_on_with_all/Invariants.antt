use Rattle.mh_model.specs.declared.config.Config.{Config}
use Rattle.mh_state.specs.Auxiliary.{HasDone}
use Rattle.mh_state.proofs.run.go_on_with_all.Given as goal

abbrev pub invariant-loop-event : goal.invariant-loop-event
invariant-loop-event g l = (config : Config) → HasDone config l.events 0 l.fn.replies.items l.fn.machine → HasDone config l.events l.event-index l.replies.items l.machine
