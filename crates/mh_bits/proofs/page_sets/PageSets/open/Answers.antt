use Rattle.mh_bits.proofs.SetLemmas.{bits_of-empty}
use Rattle.mh_bits.proofs.page_sets.PageSets.open.Goals as goal

pub returns : goal.returns
returns c = rw c.in_ok-zeros.ensures (bits_of-empty c.args.count)
