use Rattle.std.proofs.Common.{refl}
use Rattle.mh_pages.specs.Auxiliary.{indexed_again}
use Rattle.mh_pages.proofs.index.index.Goals as goal

pub returns : goal.returns
unfolding indexed_again
returns c = rw (c.put-4.ensures, c.put-3.ensures, c.put-2.ensures, c.put.ensures, c.number-row.ensures.value, c.size-size.ensures.value) refl
