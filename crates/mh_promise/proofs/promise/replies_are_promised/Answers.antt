use Rattle.std.proofs.Common.{refl}
use Rattle.mh_run_laws.specs.Replays.{machine_at}
use Rattle.mh_promise.specs.Runs.{outcome_of}
use Rattle.mh_promise.proofs.promise.replies_are_promised.Goals as goal

pub returns : goal.returns
returns c config events replies is =
    let outcome = outcome_of (machine_at config events) replies in
    record { outcome = outcome; promise = c.runs_keep_their_promise.ensures config events outcome (record { replies = is; heap = refl; free = refl; trace = refl }); replies_are = refl }
