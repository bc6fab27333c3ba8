use Rattle.mh_program.proofs.TellingLemmas.{complains}
use Rattle.mh_program.proofs.errors.Errors.say_complaint.Goals as goal

pub returns : goal.returns
returns g c = complains _ _ _ _ _ (λ text. text.items) c.complaint-text.result c.complaint-text.ensures c.say_quoted.ensures
