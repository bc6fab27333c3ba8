use Rattle.mh_size_laws.proofs.room.IntervalSteps.{cycles-bounded}
use Rattle.mh_size_laws.proofs.room.cycles_take_the_bound.Goals as goal

pub returns : goal.returns
returns c = cycles-bounded
