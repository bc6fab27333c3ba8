use Rattle.mh_cycle.proofs.ReadyLemmas.{walkable}
use Rattle.mh_cycle.proofs.cycle.Cycle.front_guess.Goals as goal

pub front_guess-requires : goal.front_guess-requires
front_guess-requires c =
    let steady = rw (← c.self.view_is) at c.requires.steady in
    record { there = (walkable c.references_lead_on.ensures _ steady).there }
