use Rattle.mh_tell_laws.proofs.cycles.UnitLemmas.{quantum-spent}
use Rattle.mh_tell_laws.proofs.cycles.quanta_tell_their_units.Goals as goal

pub returns : goal.returns
returns c = λ config collector steady grey. (quantum-spent config collector steady grey).units
