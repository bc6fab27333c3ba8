use Rattle.mh_sweep.proofs.SlotLemmas.{smaller, next, next-there, freeing-starts, freeing-goes, freeing-ends}
use Rattle.mh_sweep.proofs.slots.sweep_slots.Goals as goal

pub loop-left-init : goal.loop-left-init
loop-left-init c = freeing-starts _ _ _ _ _ c.requires.few (rw (c.page-page.ensures, c.slot-slot.ensures) at c.dead_between-left.ensures)

pub unmake-requires-clause-there : goal.unmake-requires-clause-there
unmake-requires-clause-there c = rw c.page-page.ensures (next-there _ _ _ _ _ _ _ (next _ _ _ _ _ _ c.loop-left-test.true c.loop-left.auto.left-fits.fits c.loop-left.invariant))

pub loop-left-smaller : goal.loop-left-smaller
loop-left-smaller c = smaller _ c.loop-left-test.true c.loop-left.auto.left-fits.fits

pub loop-left-preserved : goal.loop-left-preserved
loop-left-preserved c = rw (c.unmake.ensures, c.page-page.ensures) (freeing-goes _ _ _ _ _ _ c.requires.few c.loop-left-test.true c.loop-left.auto.left-fits.fits c.loop-left.invariant)

pub returns : goal.returns
returns c = freeing-ends _ _ _ _ _ _ c.loop-left-test.false c.loop-left.invariant
