use Rattle.mh_program.specs.Complaints.{One}
use Rattle.mh_program.proofs.complaints.ErrorsListener.refused.Goals as goal

pub returns : goal.returns
returns g c = One _ _ _ c.say_refusal.ensures
