use Rattle.mh_script.proofs.TaskLemmas.{done-less}
use Rattle.mh_tell_cycles.proofs.run.cycles_script.Goals as goal

pub returns : goal.returns
returns g c = done-less (λ text ended out does. does.output) c.transcribe.ensures
