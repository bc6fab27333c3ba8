use Rattle.mh_seat_laws.proofs.lock.MergedLogs.{owned_below}
use Rattle.mh_seat_laws.proofs.lock.events_have_one_owner.Goals as goal

pub returns : goal.returns
returns c = owned_below
