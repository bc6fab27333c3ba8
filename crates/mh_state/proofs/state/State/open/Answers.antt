use Rattle.std.proofs.Common.{ap}
use Rattle.mh_state.proofs.StoringLemmas.{first-stored}
use Rattle.mh_state.proofs.state.State.open.Goals as goal

pub invariant_of-result : goal.invariant_of-result
invariant_of-result c =
    rw c.new.ensures.items (first-stored c.events_keep_the_replay.ensures c.args.config c.in_ok-open.field-0 (ap (λ r. r.machine) c.in_ok-open.ensures) (ap (λ r. r.done) c.in_ok-open.ensures))
