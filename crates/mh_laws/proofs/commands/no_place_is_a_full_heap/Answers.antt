use Rattle.mh_laws.proofs.commands.CommandAnswers.{full-new}
use Rattle.mh_laws.proofs.commands.no_place_is_a_full_heap.Goals as goal

pub returns : goal.returns
returns c = full-new
