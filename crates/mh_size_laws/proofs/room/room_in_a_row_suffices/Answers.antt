use Rattle.mh_size_laws.proofs.room.FirstCycles.{room-suffices}
use Rattle.mh_size_laws.proofs.room.room_in_a_row_suffices.Goals as goal

pub returns : goal.returns
returns c = room-suffices
