use Rattle.mh_mark.proofs.FrontLemmas.{first_in}
use Rattle.mh_mark.proofs.mark.first_grey.Goals as goal

pub address-address-requires : goal.address-address-requires
address-address-requires c = c.requires.there _ (first_in _ _ c.first.ensures)

pub reference_count_from-count-requires-clause-there : goal.reference_count_from-count-requires-clause-there
reference_count_from-count-requires-clause-there c = rw c.address-address.ensures (c.requires.there _ (first_in _ _ c.first.ensures))
