use Rattle.std.proofs.Common.{[], take}
use Rattle.mh_model.specs.declared.config.Config.{Config}
use Rattle.mh_machine.specs.Judging.{HasSeen}
use Rattle.mh_machine.proofs.judge.Judge.settle.Given as goal

abbrev pub invariant-loop-entry : goal.invariant-loop-entry
invariant-loop-entry g l = (config : Config) → HasSeen config g.E.JudgedEntry.event_of (g.E.JudgedEntry.lawful config) [] l.fn.self
    → HasSeen config g.E.JudgedEntry.event_of (g.E.JudgedEntry.lawful config) (take l.entry-index l.history) l.self
