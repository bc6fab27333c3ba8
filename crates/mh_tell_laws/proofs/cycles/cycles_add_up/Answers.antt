use Rattle.mh_tell_laws.proofs.cycles.CycleLemmas.{cycles-add}
use Rattle.mh_tell_laws.proofs.cycles.cycles_add_up.Goals as goal

pub returns : goal.returns
returns c = cycles-add
