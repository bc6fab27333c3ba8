use Rattle.std.proofs.Common.{refl}
use Rattle.mh_pages.proofs.OpenLemmas.{all_free_none, kept-open, shown-open}
use Rattle.mh_pages.proofs.pages.Pages.open.Goals as goal

pub put_all-requires-clause-sets : goal.put_all-requires-clause-sets
put_all-requires-clause-sets c = all_free_none c.in_ok-sets.sets 61 refl c.in_ok-sets.ensures

pub invariant_of-result : goal.invariant_of-result
invariant_of-result c = rw (c.in_ok-zeros.ensures, c.in_ok-zeros-2.ensures, c.in_ok-zeros-3.ensures) (kept-open c.put_all.new.sets c.args.pages c.requires c.put_all.ensures)

pub returns : goal.returns
returns c = rw (c.in_ok-zeros.ensures, c.in_ok-zeros-2.ensures, c.in_ok-zeros-3.ensures) (shown-open c.args.pages)
