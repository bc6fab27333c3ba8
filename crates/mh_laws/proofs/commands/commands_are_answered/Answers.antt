use Rattle.mh_laws.proofs.commands.CommandAnswers.{commands-answered}
use Rattle.mh_laws.proofs.commands.commands_are_answered.Goals as goal

pub returns : goal.returns
returns c = commands-answered
