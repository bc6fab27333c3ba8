use Rattle.mh_laws.proofs.fields.FoundFields.{fields-found}
use Rattle.mh_laws.proofs.fields.fields_are_found.Goals as goal

pub returns : goal.returns
returns c = fields-found
