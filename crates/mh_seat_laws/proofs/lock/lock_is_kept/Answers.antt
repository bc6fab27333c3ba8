use Rattle.mh_seat_laws.proofs.lock.ShownLocks.{shown_lock}
use Rattle.mh_seat_laws.proofs.lock.lock_is_kept.Goals as goal

pub returns : goal.returns
returns g c = λ owner entries origin about. shown_lock owner entries origin about
