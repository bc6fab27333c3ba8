use Rattle.std.proofs.Common.{MatchResult, refl, subst}
use Rattle.mh_service.specs.{Auxiliary.IsReplayed, Sharing.{IsDone, IsRefused}}
use Rattle.mh_service.proofs.SharedStates.{answered, answered-replayed, replayed-of}
use Rattle.mh_state.specs.Storing.{Stored}
use Rattle.mh_service.proofs.job.JobWorkSharedEntry.run.Goals as goal

pub invariant_of-shared : goal.invariant_of-shared
invariant_of-shared g c =
    let told = c.apply_with_copy.ensures in
    answered-replayed c.events_keep_the_replay.ensures c.shared.inside.state c.apply_with_copy.new.self c.args.self.event c.apply_with_copy.result c.shared.invariant
    (answered c.shared.inside.state c.apply_with_copy.new.self c.args.self.event c.apply_with_copy.result told.step told.entered told.stopped told.full told.ends told.memory) told.config told.legal

pub returns-clause-does : goal.returns-clause-does
returns-clause-does g c =
    let told = c.apply_with_copy.ensures in
    let found : IsReplayed c.args.shared.now = subst IsReplayed c.shared.view_is c.shared.invariant in
    let done : MatchResult c.apply_with_copy.result (λ reply. IsDone c.args.self.event c.args.shared.now reply c.apply_with_copy.new.self) (λ stop. IsRefused c.args.self.event c.args.shared.now stop c.apply_with_copy.new.self)
    = subst
    (λ (stored : Stored). MatchResult c.apply_with_copy.result (λ reply. IsDone c.args.self.event stored reply c.apply_with_copy.new.self) (λ stop. IsRefused c.args.self.event stored stop c.apply_with_copy.new.self))
    c.shared.view_is
    (answered c.shared.inside.state c.apply_with_copy.new.self c.args.self.event c.apply_with_copy.result told.step told.entered told.stopped told.full told.ends told.memory) in
    (replayed-of c.events_keep_the_replay.ensures c.args.shared.now found, record { config_is = refl; legal = told.legal; replay = told.replay; promise = told.promise }, done)
