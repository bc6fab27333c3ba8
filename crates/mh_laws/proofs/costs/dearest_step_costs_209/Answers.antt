use Rattle.mh_laws.proofs.bounds.SizedTables.{dearest_step}
use Rattle.mh_laws.proofs.costs.dearest_step_costs_209.Goals as goal

pub returns : goal.returns
returns c = dearest_step
