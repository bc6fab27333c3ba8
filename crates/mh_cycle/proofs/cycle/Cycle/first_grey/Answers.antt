use Rattle.std.proofs.Common.{◌+◌, ◌∙◌, sym, ap}
use Rattle.mh_model.specs.declared.cycle.Phase.TheVariants.{Mark}
use Rattle.mh_cycle.proofs.{StepLemmas.{cost-is, first-cost}, ReadyLemmas.walkable}
use Rattle.mh_cycle.proofs.cycle.Cycle.first_grey.Goals as goal

pub first_grey-requires-clause-there : goal.first_grey-requires-clause-there
first_grey-requires-clause-there c =
    let steady = rw (← c.self.view_is) at c.requires.steady in
    (walkable c.references_lead_on.ensures _ steady).there

pub returns-clause-cost : goal.returns-clause-cost
returns-clause-cost c moved =
    let phase = rw (← c.self.view_is) at c.requires.phase in
    rw (← c.self.view_is) (ap (λ n. 1 + n) c.first_grey.ensures.count ∙ sym (cost-is _ Mark moved phase ∙ first-cost _ _ _ c.first_grey.ensures.place))
