use Rattle.mh_laws.proofs.bounds.CycleBounds.{quantum-number}
use Rattle.mh_laws.proofs.bounds.quantum_starts_one_cycle_at_most.Goals as goal

pub returns : goal.returns
returns c = quantum-number
