use Rattle.std.proofs.Common.{refl}
use Rattle.mh_run_laws.specs.Replays.{machine_at}
use Rattle.mh_promise.specs.Runs.{outcome_of}
use Rattle.mh_promise.proofs.promise.stopped_runs_keep_their_promise.Goals as goal

pub returns : goal.returns
returns c config events replies is = record {
  so_far = is;
  promise = c.runs_keep_their_promise.ensures config is.done (outcome_of (machine_at config is.done) replies) (record { replies = is.machines; heap = refl; free = refl; trace = refl });
}
