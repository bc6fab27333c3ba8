use Rattle.mh_cycle.proofs.SnapshotLemmas.{asked-kept, kept-steady}
use Rattle.mh_cycle.proofs.cycle.Cycle.start.Goals as goal

pub returns-clause-kept : goal.returns-clause-kept
returns-clause-kept c = rw (← c.self.view_is) (asked-kept _)

pub returns-clause-steady : goal.returns-clause-steady
returns-clause-steady c = rw (← c.self.view_is) (kept-steady _ _ (asked-kept _))
