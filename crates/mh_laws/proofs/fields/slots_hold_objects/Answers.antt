use Rattle.mh_laws.proofs.fields.FoundFields.{slots-hold}
use Rattle.mh_laws.proofs.fields.slots_hold_objects.Goals as goal

pub returns : goal.returns
returns c = slots-hold
