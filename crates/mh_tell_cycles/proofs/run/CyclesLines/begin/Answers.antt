use Rattle.mh_tell_cycles.proofs.WatchLemmas.{first-watches}
use Rattle.mh_tell_cycles.proofs.run.CyclesLines.begin.Goals as goal

pub returns-clause-holds : goal.returns-clause-holds
returns-clause-holds c = first-watches c.args._config
