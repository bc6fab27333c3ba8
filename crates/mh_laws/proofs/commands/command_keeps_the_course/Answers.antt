use Rattle.mh_laws.proofs.commands.LeftUnchanged.{mutator_step-course}
use Rattle.mh_laws.proofs.commands.command_keeps_the_course.Goals as goal

pub returns : goal.returns
returns c = mutator_step-course
