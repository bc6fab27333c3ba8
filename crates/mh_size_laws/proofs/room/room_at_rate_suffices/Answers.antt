use Rattle.mh_size_laws.proofs.room.RatedRuns.{rate-suffices}
use Rattle.mh_size_laws.proofs.room.room_at_rate_suffices.Goals as goal

pub returns : goal.returns
returns c = rate-suffices
