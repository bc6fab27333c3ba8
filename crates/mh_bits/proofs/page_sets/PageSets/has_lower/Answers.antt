use Rattle.mh_bits.proofs.SetLemmas.{lower_by_least}
use Rattle.mh_bits.proofs.page_sets.PageSets.has_lower.Goals as goal

pub returns-in-Some-clause-lower : goal.returns-in-Some-clause-lower
returns-in-Some-clause-lower c = lower_by_least _ _ _ _ c.in-Some.ensures.least
