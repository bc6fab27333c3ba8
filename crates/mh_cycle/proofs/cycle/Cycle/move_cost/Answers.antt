use Rattle.std.proofs.Common.{◌∙◌, sym}
use Rattle.mh_model.specs.declared.cycle.Phase.TheVariants.{Defrag}
use Rattle.mh_cycle.proofs.StepLemmas.{cost-is}
use Rattle.mh_cycle.proofs.cycle.Cycle.move_cost.Goals as goal

pub returns : goal.returns
returns c =
    let phase = rw (← c.self.view_is) at c.requires.phase in
    rw (← c.self.view_is) (c.cost.ensures ∙ sym (cost-is _ Defrag c.args.has_moved phase))
