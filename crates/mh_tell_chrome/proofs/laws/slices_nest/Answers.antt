use Rattle.std.proofs.Common.{◌==◌}
use Rattle.mh_tell_chrome.proofs.RunLemmas.{nests-run}
use Rattle.mh_tell_chrome.proofs.laws.slices_nest.Goals as goal

pub returns : goal.returns
returns c = λ options config events thread. nests-run (λ other. other == thread) options config events
