use Rattle.mh_laws.proofs.fields.FoundFields.{references-lead}
use Rattle.mh_laws.proofs.fields.references_lead_on.Goals as goal

pub returns : goal.returns
returns c = references-lead
