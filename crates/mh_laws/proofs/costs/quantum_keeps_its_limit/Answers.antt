use Rattle.mh_laws.proofs.costs.Quanta.{units-quantum}
use Rattle.mh_laws.proofs.costs.quantum_keeps_its_limit.Goals as goal

pub returns : goal.returns
returns c = units-quantum
