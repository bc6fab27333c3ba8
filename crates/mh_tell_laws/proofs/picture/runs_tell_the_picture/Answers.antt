use Rattle.mh_tell_laws.proofs.picture.RunLemmas.{runs-tell}
use Rattle.mh_tell_laws.proofs.picture.runs_tell_the_picture.Goals as goal

pub returns : goal.returns
returns c = runs-tell
