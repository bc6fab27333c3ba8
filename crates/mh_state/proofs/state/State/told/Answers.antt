use Rattle.mh_state.proofs.StoringLemmas.{replayed-stored, promised-stored}
use Rattle.mh_state.proofs.state.State.told.Goals as goal

pub returns-clause-legal : goal.returns-clause-legal
returns-clause-legal c = rw (← c.self.view_is) (c.self.invariant).legal

pub returns-clause-replay : goal.returns-clause-replay
returns-clause-replay c = rw (← c.self.view_is) (replayed-stored c.events_keep_the_replay.ensures c.self.inside.machine c.self.inside.history.items 0 c.self.invariant)

pub returns-clause-promise : goal.returns-clause-promise
returns-clause-promise c = rw (← c.self.view_is) (promised-stored c.events_keep_the_replay.ensures c.self.inside.machine c.self.inside.history.items 0 c.self.invariant)
