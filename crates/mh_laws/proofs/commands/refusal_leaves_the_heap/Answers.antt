use Rattle.mh_laws.proofs.commands.LeftUnchanged.{mutator_step-refused}
use Rattle.mh_laws.proofs.commands.refusal_leaves_the_heap.Goals as goal

pub returns : goal.returns
returns c = mutator_step-refused
