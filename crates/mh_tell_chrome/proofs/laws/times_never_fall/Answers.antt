use Rattle.mh_tell_chrome.proofs.RunLemmas.{within-run}
use Rattle.mh_tell_chrome.proofs.laws.times_never_fall.Goals as goal

pub returns : goal.returns
returns c = within-run
