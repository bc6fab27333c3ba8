use Rattle.mh_size_laws.proofs.room.Moments.{moment-suffices}
use Rattle.mh_size_laws.proofs.room.room_from_a_moment_suffices.Goals as goal

pub returns : goal.returns
returns c = moment-suffices
