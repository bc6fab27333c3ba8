use Rattle.mh_laws.proofs.commands.CommandAnswers.{new-full}
use Rattle.mh_laws.proofs.commands.full_heap_has_no_place.Goals as goal

pub returns : goal.returns
returns c = new-full
