use Rattle.std.proofs.Common.{sym, subst}
use Rattle.mh_service.specs.Auxiliary.{IsReplayed}
use Rattle.mh_service.proofs.SharedStates.{first-replayed}
use Rattle.mh_service.proofs.job.Shared.open.Goals as goal

pub invariant_of-result : goal.invariant_of-result
invariant_of-result c = subst IsReplayed (sym c.in_ok-state.ensures) (first-replayed c.events_keep_the_replay.ensures c.args.config)
