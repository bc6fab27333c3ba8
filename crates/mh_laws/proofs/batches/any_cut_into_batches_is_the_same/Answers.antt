use Rattle.mh_laws.proofs.marking.BatchSteps.{any_cut}
use Rattle.mh_laws.proofs.batches.any_cut_into_batches_is_the_same.Goals as goal

pub returns : goal.returns
returns c = any_cut
