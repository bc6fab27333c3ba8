use Rattle.mh_run_laws.proofs.marking.MarkedOnce.{no_place_again}
use Rattle.mh_run_laws.proofs.grey_room.no_place_turns_grey_again.Goals as goal

pub returns : goal.returns
returns c = no_place_again
